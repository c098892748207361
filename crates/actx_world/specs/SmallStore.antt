-- A small store for the examples: a few built-in objects and texts that stand in for all of them.
use Rattle.std.specs.Prelude.{pos, ◌++◌, unwrap_or, ℕ, Bool, true, false, List, [], ◌∷◌, codes, slice_get, Option, Some, None}
use Rattle.actx_tree.specs.declared.function.Flow.TheVariants as flows
use Rattle.actx_value.specs.declared.ids.ScopeId.{ScopeId}
use Rattle.actx_value.specs.declared.caller_id.CallerId.TheVariants as callers
use Rattle.actx_value.specs.declared.value.Key.{Key}
use Rattle.actx_value.specs.declared.value.Key.TheVariants.{Name}
use Rattle.actx_value.specs.declared.value.Value.{Value}
use Rattle.actx_value.specs.declared.value.Value.TheVariants.{Num, Undefined, Object}
use Rattle.actx_code.specs.declared.body.Body.{Body}
use Rattle.actx_code.specs.declared.body.BodyKind.{BodyKind}
use Rattle.actx_code.specs.declared.form.Form.{Form}
use Rattle.actx_ops.specs.Conversions.{text_of_value}
use Rattle.actx_cells.specs.Scopes.{held}
use Rattle.actx_objects.specs.declared.object.Object.{Object as AnObject}
use Rattle.actx_objects.specs.declared.props.Prop.{Prop}
use Rattle.actx_objects.specs.declared.kind.Kind.{Kind}
use Rattle.actx_objects.specs.declared.kind.Kind.TheVariants as kinds
use Rattle.actx_request.specs.Outcomes.{Stores}
use Rattle.actx_want.specs.Run.{Run, Meaning}
use Rattle.actx_want.specs.Bodies.{end_of}
use Rattle.actx_want.specs.Run.{Returns}
use Rattle.actx_world.specs.Setup.{Bodies, Called, Native, Caller, Builtins, Setup, Prints}
use Rattle.actx_world.specs.Ends.{Most}

-- ---- objects and texts

abbrev built_in : Kind → AnObject
built_in kind = record { kind = kind; proto = None; frozen = true; props = []; entries = record { standing = []; places = 0 } }

-- a hidden property: its name, and the number of an object
abbrev property : ℕ → ℕ → Key × Prop
property name o = (Name (record { 0 = name }), record { value = Object (record { 0 = o }); hidden = true })

-- a function that prints, and is its own member `log`
abbrev printing : AnObject
printing = record {
  kind = kinds.Native;
  proto = None;
  frozen = true;
  props = property 16 4 ∷ [];
  entries = record { standing = []; places = 0 };
}

-- a Map or a Set with one entry
abbrev collection : Kind → ℕ → AnObject
collection kind n = record {
  kind = kind;
  proto = None;
  frozen = true;
  props = [];
  entries = record { standing = (Num (pos n), record { place = 0; value = Num (pos 2) }) ∷ []; places = 1 };
}

abbrev functions : AnObject
functions = record {
  kind = kinds.Plain;
  proto = None;
  frozen = true;
  props = property 11 5 ∷ property 12 6 ∷ property 13 7 ∷ [];
  entries = record { standing = []; places = 0 };
}

-- the prototypes of objects, functions, arrays and errors; a function that prints; `call`, `apply` and `bind` of
-- functions; a Map and a Set
abbrev pub small_stores : Stores
small_stores = record {
  objects = record {
    objects =
        built_in kinds.Plain ∷ functions ∷ built_in kinds.Plain ∷ built_in kinds.Plain
        ∷ printing ∷ built_in kinds.Native ∷ built_in kinds.Native ∷ built_in kinds.Native
        ∷ collection kinds.Map 1 ∷ collection kinds.Set 2 ∷ [];
    most_objects = 0;
    most_properties = 0;
  };
  texts = record {
    texts = codes "" ∷ codes "name" ∷ codes "prototype" ∷ codes "constructor" ∷ codes "message" ∷ codes "length" ∷ codes "size" ∷ codes "bad" ∷ codes "A" ∷ codes "n" ∷ codes "hi"
        ∷ codes "call" ∷ codes "apply" ∷ codes "bind" ∷ codes "object" ∷ codes "function"
        ∷ codes "log" ∷ codes "v" ∷ codes "k" ∷ codes "get"
        ∷ (97 ∷ 0xD83D ∷ 0xDE00 ∷ []) ∷ [];
    limit = 0;
  };
  cells = record {
    scopes = record {
      parent = None;
      cells = Some (Object (record { 0 = 4 })) ∷ Some (Object (record { 0 = 8 })) ∷ Some (Object (record { 0 = 9 })) ∷ [];
    } ∷ [];
    limit = 0;
  };
}

-- ---- built-in functions

-- primitives as their texts, with a space between them; `?` for an object
abbrev shown : List (List ℕ) → Value → List ℕ
shown texts v = unwrap_or (text_of_value texts v) (codes "?")

abbrev printed_texts : List (List ℕ) → List Value → List ℕ
printed_texts texts [] = []
printed_texts texts (v ∷ []) = shown texts v
printed_texts texts (v ∷ w ∷ vs) = shown texts v ++ 32 ∷ printed_texts texts (w ∷ vs)

-- what the objects are called as
abbrev small_table : List (Option Called)
small_table =
    None ∷ None ∷ None ∷ None ∷ Some Native
    ∷ Some (Caller callers.FunctionCall) ∷ Some (Caller callers.FunctionApply) ∷ Some (Caller callers.FunctionBind) ∷ []

abbrev pub small_builtins : Builtins
small_builtins = record {
  called_as = λ o. held (slice_get small_table o.0);
  native = λ o this arguments target s. record { out = Prints (printed_texts s.texts.texts arguments); stores = s };
  constructs = λ o. false;
  extends = λ o. false;
  home = record {
    object = record { 0 = 0 };
    array = record { 0 = 2 };
    text = record { 0 = 0 };
    number = record { 0 = 0 };
    truth = record { 0 = 0 };
    length = record { 0 = 5 };
    size = record { 0 = 6 };
  };
  function = record { 0 = 1 };
  error = λ e. record { 0 = 3 };
  message_text = λ e. record { 0 = 7 };
  words = record {
    undefined = record { 0 = 0 };
    object = record { 0 = 14 };
    boolean = record { 0 = 0 };
    number = record { 0 = 0 };
    string = record { 0 = 0 };
    function = record { 0 = 15 };
  };
  name = record { 0 = 1 };
  prototype = record { 0 = 2 };
  constructor = record { 0 = 3 };
  message = record { 0 = 4 };
  global = record { 0 = 0 };
  bundle = record { 0 = 0 };
}

-- ---- limits

abbrev pub small_limits : Most
small_limits = record {
  calls = 100;
  objects = 100;
  properties = 100;
  cells = 100;
  text = 100;
  bindings = 100;
  variables = 100;
  resources = 100;
  turns = 100;
}

-- ---- codes whose bodies do what is written down

-- bodies by what they do
abbrev begun : Option Meaning → ScopeId → Run
begun None s = λ more. Returns Undefined
begun (Some m) s = m s end_of

abbrev pub doing : List Meaning → Bodies Run
doing meanings = record {
  wants = λ r. r [];
  after = λ a r. λ more. r (a ∷ more);
  begin = λ b s. begun (slice_get meanings b.0) s;
}

-- a body of this kind, name and number of cells; no row looks at its form
abbrev pub body : Form → BodyKind → ℕ → Bool → ℕ → Body
body form kind name hidden cells = record { kind = kind; flow = flows.Plain; name = name; hidden = hidden; cells = cells; form = form }

abbrev pub small_setup : List Body → Setup
small_setup bodies = record { code = record { bodies = bodies; literals = []; bundled = [] }; builtins = small_builtins }
