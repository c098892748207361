-- Worked runs of small files.
use Rattle.std.specs.Prelude.{◌≡◌, ℕ, ◌+◌, pos, true, false, List, [], ◌∷◌, length, codes, Option, Some, None}
use Rattle.actx_text.specs.declared.body_id.BodyId.{BodyId}
use Rattle.actx_event.specs.declared.event.Event.{Event}
use Rattle.actx_event.specs.declared.event.Event.TheVariants.{Init, Before, After, Print}
use Rattle.actx_value.specs.Texts.{units_of}
use Rattle.actx_value.specs.declared.ids.ObjId.{ObjId}
use Rattle.actx_value.specs.declared.operator.UnaryOp.TheVariants as unaries
use Rattle.actx_value.specs.declared.value.Value.{Value}
use Rattle.actx_value.specs.declared.value.Value.TheVariants.{Undefined, Null, Num, Text}
use Rattle.actx_value.specs.declared.end.End.TheVariants.{Finished, Uncaught, OutOfProfile, Limit}
use Rattle.actx_value.specs.declared.end.Which.{Which}
use Rattle.actx_value.specs.declared.end.Which.TheVariants.{Calls, Objects, Properties, Cells, Text as InText}
use Rattle.actx_value.specs.declared.end.Reason.TheVariants.{Number}
use Rattle.actx_value.specs.declared.operator.BinaryOp.TheVariants.{Divide}
use Rattle.actx_code.specs.declared.body.Body.{Body}
use Rattle.actx_code.specs.declared.body.BodyKind.TheVariants.{File, Function, Arrow, Class, DerivedClass}
use Rattle.actx_code.specs.declared.form.Form.{Form}
use Rattle.actx_cells.specs.Scopes.{count_of}
use Rattle.actx_objects.specs.Objects.{property_count, proto_of}
use Rattle.actx_want.specs.Run.{Run, Meaning}
use Rattle.actx_want.specs.Names.{name, changed_plainly}
use Rattle.actx_want.specs.Members.{Suffixed, plain, change_member, member, suffixes}
use Rattle.actx_want.specs.Operators.{unary, operand, operators}
use Rattle.actx_want.specs.Lists.{Listed, single, spread, array}
use Rattle.actx_want.specs.Calls.{call, new, super_call}
use Rattle.actx_want.specs.Functions.{Binding, function, parameter, rest_parameter}
use Rattle.actx_want.specs.Patterns.{slot, elements}
use Rattle.actx_want.specs.Classes.{class}
use Rattle.actx_want.specs.Statements.{sequence, init, block, returned, thrown}
use Rattle.actx_want.specs.Loops.{of_loop}
use Rattle.actx_want.specs.Tries.{bound, try}
use Rattle.actx_want.specs.Examples.{literal}
use Rattle.actx_world.specs.Ends.{Most, Ends}
use Rattle.actx_world.specs.Worlds.{World, world, Last, last_of, EndedBy, Budget, printed}
use Rattle.actx_world.specs.SmallStore.{small_stores, small_limits, small_setup, doing, body}

-- a run of these bodies and of what they do
abbrev pub run : List Body → List Meaning → ℕ → World Run
run bodies meanings k = world (doing meanings) (small_setup bodies) small_limits small_stores k

abbrev pub end_within : Most → List Body → List Meaning → ℕ → Last
end_within most bodies meanings budget = last_of (doing meanings) (small_setup bodies) most small_stores budget

-- the end of a run with a budget of 40 moves
abbrev pub end : List Body → List Meaning → Last
end bodies meanings = end_within small_limits bodies meanings 40

-- the n-th object that the run made, from 0
abbrev pub made_object : ℕ → ObjId
made_object n = record { 0 = length small_stores.objects.objects + n }

-- the prototype of the n-th object that the run made, from 0
abbrev pub prototype_of : World Run → ℕ → Option ObjId
prototype_of w n = proto_of w.state.stores.objects (made_object n)

-- how many objects, properties, and scopes with their cells the run made
pub record Made (w : World Run) (o p c : ℕ) : Type 0 where
  pub objects : length w.state.stores.objects.objects ≡ length small_stores.objects.objects + o
  pub properties : property_count w.state.stores.objects.objects ≡ property_count small_stores.objects.objects + p
  pub cells : count_of w.state.stores.cells.scopes ≡ count_of small_stores.cells.scopes + c

abbrev pub finished : ℕ → Last
finished k = record { moves = k; ending = EndedBy (Ends Finished) }

abbrev pub limited_at : ℕ → Which → Last
limited_at k w = record { moves = k; ending = EndedBy (Ends (Limit w)) }

-- the events of a file that prints nothing, the newest first
abbrev pub events_of_main : List Event
events_of_main = After (record { 0 = 1 }) ∷ Before (record { 0 = 1 }) ∷ Init (record { 0 = 1 }) (codes "ROOT") 0 0 ∷ []

abbrev pub body_number : ℕ → BodyId
body_number n = record { 0 = n }

abbrev pub text_number : ℕ → Value
text_number n = Text (record { 0 = n })

abbrev pub file : Form → Body
file form = body form File 0 false 0

-- ---- an empty file: Do, the end of its body, the end of its bracket

pub record EmptyFileRuns (form : Form) : Type 0 where
  pub ends : end (file form ∷ []) (sequence [] ∷ []) ≡ finished 3
  pub events : (run (file form ∷ []) (sequence [] ∷ []) 3).events ≡ events_of_main
  -- it stays as it is
  pub stays : (run (file form ∷ []) (sequence [] ∷ []) 7).events ≡ events_of_main

-- ---- class A { constructor(n) { this.n = n; } } new A(1);

abbrev pub class_bodies : Form → List Body
class_bodies form = file form ∷ body form Class 8 true 4 ∷ []

abbrev pub class_meanings : List Meaning
class_meanings =
    block 1 [] (sequence (init 0 (class (body_number 1) None (text_number 2) []) ∷ new (name 0 0) (single (literal (Num (pos 1))) ∷ []) ∷ []))
    ∷ sequence (parameter 0 (slot 3) ∷ change_member (name 0 0) (plain (text_number 9)) (changed_plainly (name 0 3)) ∷ [])
    ∷ []

pub record ClassRuns (form : Form) : Type 0 where
  pub ends : end (class_bodies form) class_meanings ≡ finished 16
  pub events : (run (class_bodies form) class_meanings 16).events ≡ events_of_main
  pub made : Made (run (class_bodies form) class_meanings 16) 3 4 7
  -- with a depth of two, the move that would begin the constructor is not made; nor is it with six cells or two objects
  pub calls : end_within (record small_limits { calls = 2 }) (class_bodies form) class_meanings 40 ≡ limited_at 6 Calls
  pub cells : end_within (record small_limits { cells = 6 }) (class_bodies form) class_meanings 40 ≡ limited_at 6 Cells
  pub objects : end_within (record small_limits { objects = 2 }) (class_bodies form) class_meanings 40 ≡ limited_at 6 Objects
  -- with three properties, `n` is not written
  pub properties : end_within (record small_limits { properties = 3 }) (class_bodies form) class_meanings 40 ≡ limited_at 11 Properties
  -- with these counts exactly it ends as with more
  pub exact : end_within (record small_limits { calls = 3; objects = 3; properties = 4; cells = 7 }) (class_bodies form) class_meanings 40 ≡ finished 16
  -- a budget of 15 moves is used up, and one of 16 isn't
  pub budget : end_within small_limits (class_bodies form) class_meanings 15 ≡ record { moves = 15; ending = Budget }
  pub enough : end_within small_limits (class_bodies form) class_meanings 16 ≡ finished 16

-- ---- class A {} class B extends A {} new B(1, 2);

abbrev pub derived_bodies : Form → List Body
derived_bodies form = file form ∷ body form Class 8 true 3 ∷ body form DerivedClass 8 true 4 ∷ []

abbrev pub derived_meanings : List Meaning
derived_meanings =
    block 2 [] (sequence (
    init 0 (class (body_number 1) None (text_number 2) [])
    ∷ init 1 (class (body_number 2) (Some (name 0 0)) (text_number 2) [])
    ∷ new (name 0 1) (single (literal (Num (pos 1))) ∷ single (literal (Num (pos 2))) ∷ [])
    ∷ []))
    ∷ sequence []
    ∷ sequence (rest_parameter 0 (slot 3) ∷ super_call 0 (spread (name 0 3) ∷ []) ∷ [])
    ∷ []

pub record DerivedClassRuns (form : Form) : Type 0 where
  pub ends : end (derived_bodies form) derived_meanings ≡ finished 30
  pub made : Made (run (derived_bodies form) derived_meanings 30) 7 8 12
  -- the new object, the last one made, has the prototype object of B, and that has the one of A
  pub object : prototype_of (run (derived_bodies form) derived_meanings 30) 6 ≡ Some (made_object 3)
  pub prototype : prototype_of (run (derived_bodies form) derived_meanings 30) 3 ≡ Some (made_object 1)

-- ---- class A {} class B extends A { constructor() { (() => super())(); } } new B();

abbrev pub arrow_bodies : Form → List Body
arrow_bodies form = file form ∷ body form Class 8 true 3 ∷ body form DerivedClass 8 true 3 ∷ body form Arrow 0 false 0 ∷ []

abbrev pub arrow_meanings : List Meaning
arrow_meanings =
    block 2 [] (sequence (
    init 0 (class (body_number 1) None (text_number 2) [])
    ∷ init 1 (class (body_number 2) (Some (name 0 0)) (text_number 2) [])
    ∷ new (name 0 1) []
    ∷ []))
    ∷ sequence []
    ∷ sequence (suffixes (function (body_number 3)) (call false [] ∷ []) ∷ [])
    ∷ returned (super_call 1 [])
    ∷ []

pub record ArrowRuns (form : Form) : Type 0 where
  pub ends : end (arrow_bodies form) arrow_meanings ≡ finished 25
  -- the objects of A and B, the arrow, and the new object, whose prototype is the prototype object of B
  pub made : Made (run (arrow_bodies form) arrow_meanings 25) 6 7 12
  pub object : prototype_of (run (arrow_bodies form) arrow_meanings 25) 5 ≡ Some (made_object 3)

-- ---- (() => 1).bind(1); and the same called

abbrev pub one_bodies : Form → List Body
one_bodies form = file form ∷ body form Arrow 0 false 0 ∷ []

abbrev pub bound_meanings : List Suffixed → List Meaning
bound_meanings calls =
    suffixes (function (body_number 1)) (member false (plain (text_number 13)) ∷ call false (single (literal (Num (pos 1))) ∷ []) ∷ calls)
    ∷ returned (literal (Num (pos 1)))
    ∷ []

pub record BoundRuns (form : Form) : Type 0 where
  pub ends : end (one_bodies form) (bound_meanings []) ≡ finished 6
  pub made : Made (run (one_bodies form) (bound_meanings []) 6) 2 2 0
  -- `bound ` is a new text
  pub text : units_of (run (one_bodies form) (bound_meanings []) 6).state.stores.texts.texts ≡ 6 + units_of small_stores.texts.texts
  -- with five units it isn't made
  pub limited : end_within (record small_limits { text = 5 }) (one_bodies form) (bound_meanings []) 40 ≡ limited_at 3 InText
  -- Call and the Do of the bound function, the Do of its target, its end, and the answer
  pub called : end (one_bodies form) (bound_meanings (call false [] ∷ [])) ≡ finished 10

-- ---- `call` and `apply` of a function cost what its call costs

abbrev pub through_meanings : ℕ → List Listed → List Meaning
through_meanings key arguments =
    suffixes (function (body_number 1)) (member false (plain (text_number key)) ∷ call false arguments ∷ []) ∷ returned (literal (Num (pos 1))) ∷ []

pub record ThroughRuns (form : Form) : Type 0 where
  pub called : end (one_bodies form) (through_meanings 11 []) ≡ finished 9
  pub applied : end (one_bodies form) (through_meanings 12 (single (literal Null) ∷ single (array (single (literal Null) ∷ [])) ∷ [])) ≡ finished 10

-- ---- print(typeof (() => 1)); print(typeof null); print in turn

abbrev pub typed_meanings : List Meaning
typed_meanings =
    sequence (
    suffixes (name 0 0) (call false (single (unary unaries.TypeOf (function (body_number 1))) ∷ []) ∷ [])
    ∷ suffixes (name 0 0) (call false (single (unary unaries.TypeOf (literal Null)) ∷ []) ∷ [])
    ∷ [])
    ∷ returned (literal (Num (pos 1)))
    ∷ []

pub record TypedRuns (form : Form) : Type 0 where
  pub ends : end (one_bodies form) typed_meanings ≡ finished 10
  pub text : printed (run (one_bodies form) typed_meanings 10).events ≡ codes "function\nobject\n"

-- ---- (function f(a) { let b; })();

abbrev pub function_bodies : Form → List Body
function_bodies form = file form ∷ body form Function 8 true 4 ∷ []

abbrev pub function_meanings : List Meaning
function_meanings =
    suffixes (function (body_number 1)) (call false [] ∷ [])
    ∷ sequence (parameter 0 (slot 3) ∷ block 1 [] (init 0 (literal Undefined)) ∷ [])
    ∷ []

pub record FunctionRuns (form : Form) : Type 0 where
  pub ends : end (function_bodies form) function_meanings ≡ finished 12
  pub made : Made (run (function_bodies form) function_meanings 12) 2 3 7

-- ---- for (const x of [1, 2]) ;

abbrev pub walk_meanings : List Meaning
walk_meanings = of_loop 1 (slot 0) (array (single (literal (Num (pos 1))) ∷ single (literal (Num (pos 2))) ∷ [])) (literal Undefined) ∷ []

pub record WalkRuns (form : Form) : Type 0 where
  pub ends : end (file form ∷ []) walk_meanings ≡ finished 15
  pub made : Made (run (file form ∷ []) walk_meanings 15) 2 2 4

-- ---- for (const [k] of map) ; for (const v of set) ; for (const c of text) ; a Map and a Set of one entry, and a text of a
-- ---- unit and a pair of surrogates

abbrev pub walked : Binding → Meaning → List Meaning
walked target value = of_loop 1 target value (literal Undefined) ∷ []

pub record WalksRun (form : Form) : Type 0 where
  -- two walks and an array of key and value
  pub map : end (file form ∷ []) (walked (elements (slot 0 ∷ []) None) (name 0 1)) ≡ finished 14
  pub map_made : Made (run (file form ∷ []) (walked (elements (slot 0 ∷ []) None) (name 0 1)) 14) 3 2 2
  pub set : end (file form ∷ []) (walked (slot 0) (name 0 2)) ≡ finished 11
  pub set_made : Made (run (file form ∷ []) (walked (slot 0) (name 0 2)) 11) 1 0 2
  -- two items, which are new texts of three units together
  pub text : end (file form ∷ []) (walked (slot 0) (literal (text_number 20))) ≡ finished 14
  pub text_made : Made (run (file form ∷ []) (walked (slot 0) (literal (text_number 20))) 14) 1 0 4
  pub units : units_of (run (file form ∷ []) (walked (slot 0) (literal (text_number 20))) 14).state.stores.texts.texts ≡ units_of small_stores.texts.texts + 3

-- ---- try { null.n; } catch (e) {}

abbrev pub caught_meanings : List Meaning
caught_meanings = try (suffixes (literal Null) (member false (plain (text_number 9)) ∷ [])) (Some (bound 1 (slot 0) (sequence []))) None ∷ []

pub record CaughtRuns (form : Form) : Type 0 where
  pub ends : end (file form ∷ []) caught_meanings ≡ finished 6
  pub made : Made (run (file form ∷ []) caught_meanings 6) 1 1 2

-- ---- print('hi'); throw 7; the throw meets the end of the main script

abbrev pub thrown_meanings : List Meaning
thrown_meanings = sequence (suffixes (name 0 0) (call false (single (literal (text_number 10)) ∷ []) ∷ []) ∷ thrown (literal (Num (pos 7))) ∷ []) ∷ []

pub record ThrownRuns (form : Form) : Type 0 where
  pub ends : end (file form ∷ []) thrown_meanings ≡ record { moves = 4; ending = EndedBy (Ends (Uncaught (Num (pos 7)))) }
  pub events : (run (file form ∷ []) thrown_meanings 4).events ≡ Print (codes "hi") ∷ Before (record { 0 = 1 }) ∷ Init (record { 0 = 1 }) (codes "ROOT") 0 0 ∷ []
  pub text : printed (run (file form ∷ []) thrown_meanings 4).events ≡ 104 ∷ 105 ∷ 10 ∷ []

-- ---- 1 / 2; the division has no answer in the profile

abbrev pub division_meanings : List Meaning
division_meanings = operators (literal (Num (pos 1))) (operand Divide (literal (Num (pos 2))) ∷ []) ∷ []

pub record DivisionRuns (form : Form) : Type 0 where
  pub ends : end (file form ∷ []) division_meanings ≡ record { moves = 1; ending = EndedBy (Ends (OutOfProfile Number)) }
