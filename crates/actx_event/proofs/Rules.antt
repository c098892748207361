-- The rules of valid logs, as the code tests them.
use Rattle.std.proofs.Common.{◌≡◌, ℕ, suc, ◌+◌, Bool, true, false, List, [], ◌∷◌, length, Option, Some, None, if◌then◌else◌, refl, sym, ap, ◌∙◌, arith, add-one}
use Rattle.std.specs.Prelude.{slice_get, is_some}
use Rattle.actx_event.specs.declared.event.Event.{Event}
use Rattle.actx_event.specs.declared.bracket.Open.{Open}
use Rattle.actx_event.specs.declared.valid.Rule.TheVariants.{Nesting}
use Rattle.actx_event.specs.Front.{Front, front, place_before}
use Rattle.actx_event.specs.Brackets.{opened}
use Rattle.actx_event.specs.Numbers.{opened_at, first_made}
use Rattle.actx_event.specs.Agreement.{SameBrackets}
use Rattle.actx_event.specs.Valid.{made_count, is_numbered, is_introduced, is_nested, is_executed, is_read, broken_rule, first_broken, left_open, first_failure}
use Rattle.actx_event.proofs.Matching.{both_is_some}
use Rattle.actx_event.proofs.ByNumber.{AtNumber, opened_number, made_number}
use Rattle.actx_event.proofs.Validity.{front_all, front_behind, one_more_unbroken, ends_with}

add_if : (t : Bool) (m : ℕ) → (if t then suc m else m) ≡ (if t then m + 1 else m)
add_if true m = omega arith
add_if false m = refl

-- one more event that may make a number
pub count_more : (makes : Event → Option ℕ) (log : List Event) (n : ℕ) (e : Event) (t : Bool) → slice_get log n ≡ Some e → is_some (makes e) ≡ t → made_count makes (front log (n + 1)) ≡ (if t then made_count makes (front log n) + 1 else made_count makes (front log n))
count_more makes log n e t there is =
    let before : made_count makes (front log (n + 1)) ≡ made_count makes (e ∷ front log n) = ap (λ p. made_count makes (front log p)) (add-one n) ∙ ap (made_count makes) (front_behind log n e there) in
    let here : made_count makes (e ∷ front log n) ≡ (if t then suc (made_count makes (front log n)) else made_count makes (front log n)) = ap (λ (b : Bool). if b then suc (made_count makes (front log n)) else made_count makes (front log n)) is in
    before ∙ (here ∙ add_if t (made_count makes (front log n)))

-- a search by number finds what the search on fronts finds
pub was_made_number : (makes : Event → Option ℕ) (i : ℕ) (log : List Event) (n : ℕ) → is_some (first_made makes i log n) ≡ is_some (place_before makes i (front log n))
was_made_number makes i log n = both_is_some (AtNumber log n) (first_made makes i log n) (place_before makes i (front log n)) (made_number makes i log n)

pub nesting_broken : (e : Event) (es : Front) → is_numbered e es ≡ true → is_introduced e es ≡ true → is_nested e es ≡ false → broken_rule e es ≡ Some Nesting
nesting_broken e es a b c = rw (a, b, c) refl

pub none_broken : (e : Event) (es : Front) → is_numbered e es ≡ true → is_introduced e es ≡ true → is_nested e es ≡ true → is_executed e es ≡ true → is_read e es ≡ true → broken_rule e es ≡ None
none_broken e es a b c d f = rw (a, b, c, d, f) refl

pub unbroken_more : (log : List Event) (n : ℕ) (e : Event) → slice_get log n ≡ Some e → first_broken (front log n) ≡ None → broken_rule e (front log n) ≡ None → first_broken (front log (n + 1)) ≡ None
unbroken_more log n e there h k = ap (λ p. first_broken (front log p)) (add-one n) ∙ one_more_unbroken log n e there h k

left_same : (log : List Event) (N k : ℕ) (ns : List (Open ℕ)) (os : List (Open Front)) → SameBrackets (AtNumber log N) ns os → left_open ns k ≡ left_open os k
left_same log N k [] [] h = refl
left_same log N k (n ∷ ns) (o ∷ os) h = refl
left_same log N k [] (o ∷ os) h = absurd h
left_same log N k (n ∷ ns) [] h = absurd h

-- at the end what is left open fails
pub ends_at : (log : List Event) (n : ℕ) → n ≡ length log → first_broken (front log n) ≡ None → left_open (opened_at log n) (length log) ≡ first_failure log
ends_at log n is h =
    let none : first_broken (front log (length log)) ≡ None = ap (λ p. first_broken (front log p)) (sym is) ∙ h in
    ap (λ p. left_open (opened_at log p) (length log)) is ∙ (left_same log (length log) (length log) (opened_at log (length log)) (opened (front log (length log))) (opened_number log (length log)) ∙ (ap (λ q. left_open (opened q) (length log)) (front_all log) ∙ sym (ends_with log none)))
