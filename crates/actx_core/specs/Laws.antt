-- What a walk needs to know of names: what they mean, in the order in which it meets them.
use Rattle.std.specs.Prelude.{◌≡◌, ℕ, List, [], ◌∷◌, ◌++◌, Option}
use Rattle.actx_tree.specs.declared.tree.Tree.{Tree}
use Rattle.actx_scope_rules.specs.Scopes.{Scope}
use Rattle.actx_core.specs.declared.meaning.Meaning.{Meaning}
use Rattle.actx_core.specs.Making.{Numbered, Made, Making}
use Rattle.actx_core.specs.Names.{by_scopes, by_uses}
use Rattle.actx_core.specs.Lowering.{tree_made}

-- what names mean
abbrev pub Meanings : Type 0
Meanings = List (Option Meaning)

-- Some was made, and names were met on the way, behind those before. Where it is given what these mean, and then the rest, the
-- other makes the same, and leaves the rest.
pub record Followed {A : Type 0} (made : Made A) (given : Meanings → Made A) (before rest : Meanings) : Type 0 where
  pub met : Meanings
  pub noted : made.after.uses ≡ before ++ met
  pub same : given (met ++ rest) ≡ record { value = made.value; after = record made.after { uses = rest } }

-- one way of making follows another, whatever the scopes are: it looks at no scope
pub record Follows {A : Type 0} (x y : Making A) : Type 0 where
  pub follows : (scopes : List Scope) (this : Option ℕ) (s : Numbered) (rest : Meanings)
      → Followed (x (record { scopes = scopes; this = this }) s) (λ uses. y (record { scopes = []; this = this }) (record s { uses = uses })) s.uses rest

-- A tree whose names are resolved by what they mean, in the order in which they are met, is made as by its scopes.
abbrev pub TreesFollow : Type 0
TreesFollow = (tree : Tree) (s : Numbered) (rest : Meanings)
    → Followed (tree_made by_scopes tree s) (λ uses. tree_made by_uses tree (record s { uses = uses })) s.uses rest
