-- Maps from names to places.
use Rattle.std.specs.Prelude.{◌≡◌, ℕ, ◌+◌, Bool, List, [], ◌∷◌, Option, Some, None, nat_eq, slice_get, if◌then◌else◌}
use Rattle.std.specs.Cmp.Lexicographic.{pointwise}
use Rattle.std.specs.Global.{Global}
use Rattle.std.specs.declared.vec.Vec.{Vec}
use Rattle.indexmap.specs.IndexMap.{IndexMap, get_by}
use Rattle.actx_text.specs.declared.units.Units.{Units}
use Rattle.actx_scope_rules.specs.Scopes.{Scope, last_slot}
use Rattle.actx_scope_rules.specs.Words.{same_units, is_word}

-- what a map has at a name
abbrev pub at_name : {X S : Type 0} → IndexMap (Vec ℕ Global) X S → Units → Option X
at_name m name = get_by (λ k. pointwise nat_eq name k.items) m

-- the map gives the last slot of each name among these
pub record IsLast {S : Type 0} (m : IndexMap (Vec ℕ Global) (ℕ × Bool) S) (slots : Scope) : Type 0 where
  pub gives : (name : Units) → at_name m name ≡ last_slot name slots 0

-- the first place of a name among these, the first of which has place i
unfoldable pub first_place : Units → List Units → ℕ → Option ℕ
first_place name [] i = None
first_place name (x ∷ xs) i = if same_units name x then Some i else first_place name xs (i + 1)

-- a place, if this name stands there
abbrev pub held : Units → List Units → Option ℕ → Option ℕ
held name names None = None
held name names (Some i) = if is_word name (slice_get names i) then Some i else None

-- The map gives the first place of each name among these. It may give a place too where the name doesn't stand any more.
pub record IsFirst {S : Type 0} (m : IndexMap (Vec ℕ Global) ℕ S) (names : List Units) : Type 0 where
  pub gives : (name : Units) → held name names (at_name m name) ≡ first_place name names 0
