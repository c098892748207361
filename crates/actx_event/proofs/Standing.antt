-- The open brackets by number, at a place and behind the next event.
use Rattle.std.proofs.Common.{◌≡◌, ℕ, ◌+◌, Bool, true, false, ◌&&◌, List, [], ◌∷◌, ◌++◌, drop, reverse, Option, Some, refl, sym, ap, ap₂, ◌∙◌, add-one}
use Rattle.std.specs.Prelude.{slice_get}
use Rattle.actx_event.specs.declared.event.Event.{Event}
use Rattle.actx_event.specs.declared.bracket.Bracket.{Bracket}
use Rattle.actx_event.specs.Event.{closed_bracket}
use Rattle.actx_event.specs.Front.{Front, front}
use Rattle.actx_event.specs.Brackets.{brackets_after, opened, has_opener, nests}
use Rattle.actx_event.specs.Execution.{exec, innermost}
use Rattle.actx_event.specs.Numbers.{opened_behind, opened_at}
use Rattle.actx_event.proofs.Matching.{same_innermost, same_has_opener}
use Rattle.actx_event.proofs.ByNumber.{AtNumber, opened_number}
use Rattle.actx_event.proofs.Validity.{front_split, front_behind}

pub exec_number : (log : List Event) (p : ℕ) → innermost (opened_at log p) ≡ exec (front log p)
exec_number log p = same_innermost (AtNumber log p) (opened_at log p) (opened (front log p)) (opened_number log p)

pub opener_number : (log : List Event) (p : ℕ) (b : Option Bracket) → has_opener b (opened_at log p) ≡ has_opener b (opened (front log p))
opener_number log p b = same_has_opener (AtNumber log p) b (opened_at log p) (opened (front log p)) (opened_number log p)

pub opened_more : (log : List Event) (n : ℕ) (e : Event) → slice_get log n ≡ Some e → opened_at log (n + 1) ≡ brackets_after e n (opened_at log n)
opened_more log n e there = ap (opened_at log) (add-one n) ∙ ap (λ o. opened_behind o n (opened_at log n)) there

pub nests_more : (log : List Event) (n : ℕ) (e : Event) (t : Bool) → slice_get log n ≡ Some e → t ≡ has_opener (closed_bracket e) (opened_at log n) → nests (front log n) ≡ true → nests (front log (n + 1)) ≡ t
nests_more log n e t there is h =
    ap (λ k. nests (front log k)) (add-one n) ∙ (ap nests (front_behind log n e there) ∙ (ap₂ (λ a b. a && b) (sym (is ∙ opener_number log n (closed_bracket e))) h ∙ and_true t))
  where
    and_true : (t : Bool) → (t && true) ≡ t
    and_true true = refl
    and_true false = refl

and_false : (t : Bool) → (t && false) ≡ false
and_false true = refl
and_false false = refl

nests_not : (later es : Front) → nests es ≡ false → nests (later ++ es) ≡ false
nests_not [] es h = h
nests_not (e ∷ later) es h =
    ap (λ b. has_opener (closed_bracket e) (opened (later ++ es)) && b) (nests_not later es h) ∙ and_false (has_opener (closed_bracket e) (opened (later ++ es)))

pub nests_never : (log : List Event) (p : ℕ) → nests (front log p) ≡ false → nests (reverse log) ≡ false
nests_never log p h = ap nests (front_split log p) ∙ nests_not (reverse (drop p log)) (front log p) h
