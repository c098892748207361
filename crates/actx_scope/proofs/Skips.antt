-- Bodies that are no range's are passed over.
use Rattle.std.proofs.Common.{◌≡◌, ℕ, zero, suc, ◌+◌, ◌-◌, ◌<◌, ◌≤◌, Bool, false, List, [], ◌∷◌, drop, refl, sym, ap, subst, ◌∙◌, Some, None, inl, inr, arith}
use Rattle.std.specs.Prelude.{◌==◌, if◌then◌else◌, nat_eq, slice_get}
use Rattle.std.specs.HashMap.{HashMap, get}
use Rattle.std.proofs.lemmas.Bool.Decides.{eqb_tells}
use Rattle.actx_tree.specs.declared.function.Unread.{Unread}
use Rattle.actx_tree.specs.declared.tree.BodyTree.{BodyTree}
use Rattle.actx_scope.specs.Bodies.{body_of}
use Rattle.actx_scope.specs.Places.{Finds}

-- ---- a list without its first items

not_it : (a b c : ℕ) → (a + b ≡ c → ⊥) → (a + b == c) ≡ false
not_it a b c f = elim (eqb_tells (a + b) c) [ inl p ↦ absurd (f p.1) | inr p ↦ p.0 ]

skip : (count : ℕ) (xs : List BodyTree) (range : Unread) (k : ℕ) → ((j : ℕ) (b : BodyTree) → j < k → slice_get xs j ≡ Some b → b.from + range.from ≡ count → ⊥)
    → body_of count (drop k xs) range ≡ body_of count xs range
unfolding body_of
skip count xs range zero none = refl
skip count [] range (suc k) none = refl
skip count (x ∷ xs) range (suc k) none = skip count xs range k (λ j b h e. none (suc j) b (omega (arith, h)) e)
    ∙ sym (ap (λ (z : Bool). if z then Some (x, xs) else body_of count xs range) (not_it x.from range.from count (none zero x (omega arith) refl)))

-- the range is longer than the file
pub skip_long : (count : ℕ) (xs : List BodyTree) (range : Unread) (k : ℕ) → count < range.from → body_of count (drop k xs) range ≡ body_of count xs range
skip_long count xs range k h = skip count xs range k (λ j b l e q. omega (arith, h, q))

module _ {S : Type 0} where
  found_there : (m : HashMap ℕ ℕ S) (start : ℕ) (xs : List BodyTree) (f j : ℕ) (b : BodyTree) → Finds m start xs → slice_get xs j ≡ Some b → b.from ≡ f → get nat_eq m f ≡ Some (start + j)
  found_there m start xs f j b finds e q = subst (λ z. get nat_eq m z ≡ Some (start + j)) q (finds.gives j b e)

  -- no body begins there
  pub skip_absent : (m : HashMap ℕ ℕ S) (start count f : ℕ) (xs : List BodyTree) (range : Unread) (k : ℕ) → Finds m start xs → f + range.from ≡ count → get nat_eq m f ≡ None → body_of count (drop k xs) range ≡ body_of count xs range
  skip_absent m start count f xs range k finds is none = skip count xs range k (λ j b l e q. let there = found_there m start xs f j b finds e (omega (arith, is, q)) in (cc))

  place_is : (m : HashMap ℕ ℕ S) (start f place j : ℕ) → get nat_eq m f ≡ Some place → get nat_eq m f ≡ Some (start + j) → place ≡ start + j
  place_is m start f place j p q = (cc)

  -- the body that begins there stands before these
  pub skip_before : (m : HashMap ℕ ℕ S) (start count f place : ℕ) (xs : List BodyTree) (range : Unread) (k : ℕ) → Finds m start xs → f + range.from ≡ count → get nat_eq m f ≡ Some place → place < start
      → body_of count (drop k xs) range ≡ body_of count xs range
  skip_before m start count f place xs range k finds is some h = skip count xs range k (λ j b l e q. omega (arith, h, place_is m start f place j some (found_there m start xs f j b finds e (omega (arith, is, q)))))

  -- it stands there among them
  pub skip_to : (m : HashMap ℕ ℕ S) (start count f place : ℕ) (xs : List BodyTree) (range : Unread) → Finds m start xs → f + range.from ≡ count → get nat_eq m f ≡ Some place → start ≤ place
      → body_of count (drop (place - start) xs) range ≡ body_of count xs range
  skip_to m start count f place xs range finds is some h = skip count xs range (place - start) (λ j b l e q. omega (arith, h, l, place_is m start f place j some (found_there m start xs f j b finds e (omega (arith, is, q)))))

  -- what the loop that makes the map keeps

  abbrev pub Noted : HashMap ℕ ℕ S → List BodyTree → ℕ → Type 0
  Noted m xs i = (j : ℕ) (b : BodyTree) → j < i → slice_get xs j ≡ Some b → get nat_eq m b.from ≡ Some j
