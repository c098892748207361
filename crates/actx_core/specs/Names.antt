-- How names are resolved: by the scopes around them, or by a list of what they mean, in the order in which they are met.
use Rattle.std.specs.Prelude.{ℕ, ◌+◌, List, [], ◌∷◌, ◌++◌, Option, Some, None}
use Rattle.std.specs.Option.{option_map}
use Rattle.actx_text.specs.declared.units.Units.{Units}
use Rattle.actx_scope_rules.specs.Scopes.{Scope, found}
use Rattle.actx_scope_rules.specs.declared.slot.Found.{Found}
use Rattle.actx_core.specs.declared.meaning.Meaning.{Meaning}
use Rattle.actx_core.specs.Making.{Around, Numbered, Made, Making}

-- the scopes inside one, and what a use of a name means
pub record Names : Type 0 where
  pub inside : Scope → List Scope → List Scope
  pub meaning : Units → Making (Option Meaning)

-- the slot that was found
abbrev pub meant : Found → Meaning
meant x = record { hops = x.hops; slot = x.slot }

abbrev pub meaning_in : List Scope → Units → Option Meaning
meaning_in scopes name = option_map meant (found scopes name)

-- by the scopes (ResolveBinding, ECMA-262 §9.4.2); what names mean is noted
abbrev pub by_scopes : Names
by_scopes = record {
  inside = λ slots scopes. slots ∷ scopes;
  meaning = λ name a s. let x = meaning_in a.scopes name in record { value = x; after = record s { uses = s.uses ++ x ∷ [] } };
}

-- the next meaning of a list
abbrev pub next_of : List (Option Meaning) → Option Meaning
next_of [] = None
next_of (x ∷ xs) = x

abbrev pub after_next : List (Option Meaning) → List (Option Meaning)
after_next [] = []
after_next (x ∷ xs) = xs

-- by what is given for them
abbrev pub by_uses : Names
by_uses = record {
  inside = λ slots scopes. scopes;
  meaning = λ name a s. record { value = next_of s.uses; after = record s { uses = after_next s.uses } };
}

-- ---- scopes

-- in a scope of these slots
abbrev pub entered : Names → Scope → Around → Around
entered names slots a = record { scopes = names.inside slots a.scopes; this = option_map (λ hops. hops + 1) a.this }

-- in the parameters of a function that has `this`
abbrev pub with_this : Names → Scope → Around → Around
with_this names slots a = record { scopes = names.inside slots a.scopes; this = Some 0 }

-- in a scope of these slots, if there are any
abbrev pub scoped : {A : Type 0} → Names → Scope → Making A → Making A
scoped names [] x a s = x a s
scoped names (slot ∷ slots) x a s = x (entered names (slot ∷ slots) a) s
