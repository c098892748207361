-- What a walk over a tree adds to what it has found, part by part.
use Rattle.std.specs.Prelude.{◌≡◌, ℕ, ◌+◌, false, List, [], ◌∷◌, ◌++◌, Option, Some, None}
use Rattle.actx_text.specs.declared.units.Units.{Units}
use Rattle.actx_scope_rules.specs.declared.early.EarlyKind.{EarlyKind}
use Rattle.actx_scope_rules.specs.declared.early.Early.{Early}
use Rattle.actx_scope_rules.specs.declared.slot.Found.{Found}
use Rattle.actx_scope_rules.specs.declared.place.Place.{Place}
use Rattle.actx_scope_rules.specs.declared.place.Role.{Role}
use Rattle.actx_scope.specs.declared.findings.Findings.{Findings}
use Rattle.actx_scope.specs.declared.walk.Walk.{Walk}
use Rattle.actx_scope.specs.declared.walk.Outer.{Outer}
use Rattle.actx_scope_rules.specs.declared.early.EarlyKind.TheVariants as kind
use Rattle.actx_tree.specs.declared.function.Flow.{Flow}
use Rattle.actx_scope_rules.specs.declared.place.Role.TheVariants as roles
use Rattle.actx_scope_rules.specs.Scopes.{Scope, slots_of, opened, closed}
use Rattle.actx_scope_rules.specs.Contexts.{Context, behind, in_params, in_body}
use Rattle.actx_scope_rules.specs.Conditions.{first, when}
use Rattle.actx_scope_rules.specs.Nodes.{Marks, Part, both, or_none, members_marks, has_some}
use Rattle.actx_tree.specs.declared.expr.Expr.{Expr}
use Rattle.actx_tree.specs.declared.stmt.ForInit.{ForInit}
use Rattle.actx_scope_rules.specs.Statements as statements
use Rattle.actx_scope_rules.specs.Statements.{Statement, for_init_marks, expr_marks, looped}
use Rattle.actx_scope_rules.specs.Early.{Node, Inside, spread, uses_at}

-- ---- nodes

abbrev pub early_at : ℕ → Option EarlyKind → Option Early
early_at i None = None
early_at i (Some k) = Some (record { kind = k; at = i })

abbrev pub or_first : Option Early → Option Early → Option Early
or_first None other = other
or_first (Some x) other = Some x

-- with one node more, of this first error and these uses
abbrev pub with_first : Findings → Option EarlyKind → List Found → Findings
with_first o error uses = record { count = o.count + 1; first = or_first o.first (early_at o.count error); uses = o.uses ++ uses_at o.count uses }

abbrev pub with_node : Findings → Node → Findings
with_node o n = with_first o (first n.errors) n.uses

-- with these nodes more
unfoldable pub after : Findings → List Node → Findings
after o [] = o
after o (n ∷ ns) = after (with_node o n) ns

-- ---- parts

abbrev pub around : Walk → Role → Place → Context
around w r p = record { scopes = w.scopes; earlier = w.earlier; role = r; place = p }

-- the findings with those of a part at this place
abbrev pub with_part : Inside → Marks → Role → Place → Walk → Findings
with_part inside f r p w = after w.out (spread inside (f (around w r p)))

-- One node was added, with this first error and the name that is used there.
pub record AddsNode (error : Option EarlyKind) (uses : List Found) (old new : Walk) : Type 0 where
  pub scopes : new.scopes ≡ old.scopes
  pub earlier : new.earlier ≡ old.earlier
  pub out : new.out ≡ with_first old.out error uses

-- A part was added that stands in this role at this place; the names are as they were.
pub record Adds (inside : Inside) (f : Marks) (r : Role) (p : Place) (old new : Walk) : Type 0 where
  pub scopes : new.scopes ≡ old.scopes
  pub earlier : new.earlier ≡ old.earlier
  pub out : new.out ≡ with_part inside f r p old

-- The same, and these names stand before the place now.
pub record Binds (inside : Inside) (f : Marks) (names : List Units) (r : Role) (p : Place) (old new : Walk) : Type 0 where
  pub scopes : new.scopes ≡ old.scopes
  pub earlier : new.earlier ≡ old.earlier ++ names
  pub out : new.out ≡ with_part inside f r p old

-- ---- functions and classes

-- parameters and what stands behind them, in the scope of the parameters behind hidden slots
abbrev pub called : Scope → Part → Place → Flow → Marks → Marks
called hidden params place f body c = let p = in_params hidden params.names place c in params.marks p ++ body (in_body f params.names p)

-- behind these names
abbrev pub named : List Units → Marks → Marks
named names f c = f (behind names c)

-- what a class extends and its members, in a scope of these slots
abbrev pub class_inner : Scope → Option Part → List Part → Marks
class_inner slots parent members c = let d = record c { scopes = opened slots c.scopes; role = roles.Evaluated } in or_none parent d ++ members_marks members (has_some parent) false d

-- A node was added and a scope of parameters entered, which were added too.
pub record Begins (inside : Inside) (params : Part) (p : Place) (old new : Walk) : Type 0 where
  pub scopes : new.scopes ≡ slots_of false params.names ∷ old.scopes
  pub earlier : new.earlier ≡ []
  pub out : new.out ≡ after (with_first old.out (first (when (params.repeats []) kind.Redeclared)) []) (spread inside (params.marks (in_params [] params.names p (around old roles.Evaluated p))))

-- A part was added behind these names, and a scope was left.
pub record Ends (inside : Inside) (names : List Units) (f : Marks) (p : Place) (outer : Outer) (old new : Walk) : Type 0 where
  pub scopes : new.scopes ≡ closed outer.opened old.scopes
  pub earlier : new.earlier ≡ outer.earlier
  pub out : new.out ≡ with_part inside (named names f) roles.Evaluated p old

-- ---- statements

-- the parts of a `for`
abbrev pub for_inner : ForInit → Option Expr → Option Expr → Statement → Marks
for_inner first test update body = both (for_init_marks first) (both (statements.or_none expr_marks test) (both (statements.or_none expr_marks update) (looped body.marks)))

-- ---- files

abbrev pub nothing : Findings
nothing = record { count = 0; first = None; uses = [] }
