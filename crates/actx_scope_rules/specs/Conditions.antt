-- The conditions of early errors, one definition for each. Each says whether its error stands at a node that has this
-- around it. The numbers are the sections of ECMA-262 whose static semantics a condition restricts.
use Rattle.std.specs.Prelude.{Bool, true, false, not, ◌&&◌, ◌||◌, List, [], ◌∷◌, Option, Some, None, is_none}
use Rattle.actx_text.specs.declared.units.Units.{Units}
use Rattle.actx_tree.specs.declared.function.Flow.{Flow}
use Rattle.actx_tree.specs.declared.function.Flow.TheVariants as flow
use Rattle.actx_scope_rules.specs.declared.early.EarlyKind.{EarlyKind}
use Rattle.actx_scope_rules.specs.Words.{among, is_word, constructor_word, proto_word}
use Rattle.actx_scope_rules.specs.declared.slot.Found.{Found}
use Rattle.actx_scope_rules.specs.declared.place.Owner.{Owner}
use Rattle.actx_scope_rules.specs.declared.place.Owner.TheVariants as owner
use Rattle.actx_scope_rules.specs.declared.place.Place.{Place}
use Rattle.actx_scope_rules.specs.declared.place.Role.{Role}
use Rattle.actx_scope_rules.specs.declared.place.Role.TheVariants as roles

-- an error, if its condition holds
abbrev pub when : Bool → EarlyKind → List EarlyKind
when true kind = kind ∷ []
when false kind = []

-- the first of the errors of a node
abbrev pub first : List EarlyKind → Option EarlyKind
first [] = None
first (k ∷ ks) = Some k

-- ---- names

-- Redeclared: a function or a class is declared under a name that stands before it in its scope (§14.2.1, §16.1.1). The
-- other ways to be redeclared are `repeats` of a pattern and of parameters.
abbrev pub is_redeclared : Role → Option Units → List Units → Bool
is_redeclared roles.Evaluated name earlier = false
is_redeclared roles.Assigned name earlier = false
is_redeclared roles.Declared None earlier = false
is_redeclared roles.Declared (Some name) earlier = among name earlier

-- NotDeclared: a name that no scope around it has (§9.1.2.1)
abbrev pub is_not_declared : Option Found → Bool
is_not_declared x = is_none x

-- ConstAssigned: a name is assigned that is fixed (§9.1.1.1.5)
abbrev pub is_const_assigned : Role → Option Found → Bool
is_const_assigned roles.Evaluated x = false
is_const_assigned roles.Declared x = false
is_const_assigned roles.Assigned None = false
is_const_assigned roles.Assigned (Some x) = x.is_fixed

-- ---- statements and expressions of one place

-- BadBreak: `break` or `continue` outside a loop of its function (§14.8.1, §14.9.1)
abbrev pub is_bad_break : Place → Bool
is_bad_break p = not p.in_loop

-- BadReturn: `return` outside a function (§14.10)
abbrev pub is_bad_return : Place → Bool
is_bad_return p = not p.in_function

-- BadAwait: `await` outside the body of an async function (§15.8.1, §15.9.1)
abbrev pub is_bad_await : Place → Bool
is_bad_await p = not p.can_await

-- BadYield: `yield` outside the body of a generator (§15.5.1)
abbrev pub is_bad_yield : Place → Bool
is_bad_yield p = not p.can_yield

-- BadSuper: `super( .. )` outside the constructor of a class with `extends` and the arrows in it (§13.3.7, §15.7.1)
abbrev pub is_bad_super_call : Place → Bool
is_bad_super_call p = not p.can_super_call

-- BadSuper: `super.name` outside a method and the arrows in it (§13.3.7, §15.4.1)
abbrev pub is_bad_super_member : Place → Bool
is_bad_super_member p = not p.can_super_member

-- BadDelete: `delete` of what isn't a member (§13.5.1.1)
abbrev pub is_bad_delete : Bool → Bool
is_bad_delete is_member = not is_member

-- ---- objects and classes

-- BadKey: `__proto__` before a `:` in an object, as a word or a text (§13.2.5.1, §B.3.1); these are the words before `:`
unfoldable pub has_bad_key : List (Option Units) → Bool
has_bad_key [] = false
has_bad_key (w ∷ ws) = is_word proto_word w || has_bad_key ws

-- a plain function isn't async and no generator
abbrev pub is_plain : Flow → Bool
is_plain flow.Plain = true
is_plain flow.Async = false
is_plain flow.Generator = false

-- TwoConstructors: a constructor of a class behind another one, or one that is async or a generator (§15.7.1)
abbrev pub is_wrong_constructor : Owner → Option Units → Flow → Bool
is_wrong_constructor (owner.Class has_parent has_constructor) word f = is_word constructor_word word && (has_constructor || not (is_plain f))
is_wrong_constructor owner.Other word f = false

-- whether `super( .. )` may stand in a method
abbrev pub is_derived_constructor : Owner → Option Units → Bool
is_derived_constructor (owner.Class has_parent has_constructor) word = has_parent && is_word constructor_word word
is_derived_constructor owner.Other word = false
