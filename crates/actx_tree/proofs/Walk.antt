-- Steps of a walk that adds what it finds in a tree to a list: `was` is the list at the start, `f` what is found in a
-- member of a list of parts, `d` the number of nodes around them.
use Rattle.std.proofs.Common.{◌≡◌, ℕ, ◌+◌, ◌<◌, ◌≤◌, max, List, [], ◌∷◌, ◌++◌, length, get_or, map, drop, refl, sym, ap, ◌∙◌, append_assoc}
use Rattle.std.proofs.Math.ListN.{drop_of_length-le}
use Rattle.std.proofs.lemmas.List.{drop_more, append-nil}
use Rattle.actx_tree.specs.declared.function.Nested.{Nested}
use Rattle.actx_tree.specs.Levels.{highest}
use Rattle.actx_tree.specs.Bodies.{Found, all}

-- what is left of a list at one of its members
left : {X : Type 0} (xs : List X) (i : ℕ) (x : X) → i < length xs → x ≡ get_or xs i x → drop i xs ≡ x ∷ drop (i + 1) xs
left xs i x h e = drop_more xs i x h ∙ ap (λ z. z ∷ drop (i + 1) xs) (sym e)

pub all-drop : {X : Type 0} (f : X → Found) (xs : List X) (i : ℕ) (x : X) (d : ℕ) → i < length xs → x ≡ get_or xs i x → all (map f (drop i xs)) d ≡ f x d ++ all (map f (drop (i + 1) xs)) d
all-drop f xs i x d h e = ap (λ z. all (map f z) d) (left xs i x h e)

pub highest-drop : {X : Type 0} (f : X → ℕ) (xs : List X) (i : ℕ) (x : X) → i < length xs → x ≡ get_or xs i x → highest (map f (drop i xs)) ≡ max (f x) (highest (map f (drop (i + 1) xs)))
highest-drop f xs i x h e = ap (λ z. highest (map f z)) (left xs i x h e)

-- a member more
pub all_more : {X : Type 0} (f : X → Found) (xs : List X) (i : ℕ) (x : X) (d : ℕ) (before after was : List Nested) → i < length xs → x ≡ get_or xs i x → after ≡ before ++ f x d → before ++ all (map f (drop i xs)) d ≡ was → after ++ all (map f (drop (i + 1) xs)) d ≡ was
all_more f xs i x d before after was h e step whole =
    ap (λ z. z ++ all (map f (drop (i + 1) xs)) d) step
    ∙ (append_assoc before (f x d) (all (map f (drop (i + 1) xs)) d)
    ∙ (ap (λ z. before ++ z) (sym (all-drop f xs i x d h e)) ∙ whole))

-- all of them
pub all_done : {X : Type 0} (f : X → Found) (xs : List X) (i : ℕ) (d : ℕ) (found whole : List Nested) → length xs ≤ i → found ++ all (map f (drop i xs)) d ≡ whole → found ≡ whole
all_done f xs i d found whole h e = sym (append-nil found) ∙ (ap (λ z. found ++ all (map f z) d) (sym (drop_of_length-le xs h)) ∙ e)

-- nothing there
pub none_more : (was whole : List Nested) → whole ≡ [] → was ≡ was ++ whole
none_more was whole e = sym (append-nil was) ∙ ap (λ z. was ++ z) (sym e)

-- two parts, of which one is read
pub first_of_two : (was found whole a b : List Nested) → found ≡ was ++ a → whole ≡ a ++ b → was ++ whole ≡ found ++ b
first_of_two was found whole a b step e = ap (λ z. was ++ z) e ∙ (sym (append_assoc was a b) ∙ ap (λ z. z ++ b) (sym step))

-- three parts, of which two are read
pub two_of_three : (was found more whole a b c : List Nested) → found ≡ was ++ a → more ≡ found ++ b → whole ≡ a ++ (b ++ c) → was ++ whole ≡ more ++ c
two_of_three was found more whole a b c one two e = ap (λ z. was ++ z) e ∙ (sym (append_assoc was a (b ++ c)) ∙ (ap (λ z. z ++ (b ++ c)) (sym one) ∙ first_of_two found more (b ++ c) b c two refl))
