-- Each step of the walk goes to a smaller place; so the walk is said by its first step.
use Rattle.std.proofs.Common.{◌≡◌, ℕ, zero, suc, ◌≤◌, ◌==◌, Bool, true, false, [], ◌∷◌, length, Option, Some, None, if◌then◌else◌, refl, ap, arith}
use Rattle.actx_event.specs.declared.event.Event.{Event}
use Rattle.actx_event.specs.declared.event.Event.TheVariants.{Before, Enter}
use Rattle.actx_event.specs.Event.{is_number, resource_made, capture_made, closed_bracket, value_bound}
use Rattle.actx_event.specs.Front.{Front, place_before}
use Rattle.actx_event.specs.Brackets.{opened}
use Rattle.actx_event.specs.Walk.{place_named, causal_step, met_here, met_within, met_binding}
use Rattle.actx_event.specs.Agreement.{BothOrNeither, SameBrackets}
use Rattle.actx_event.proofs.Matching.{both_or, both_if, both_unwrap, same_after, same_opener, same_weaken, both_weaken}

-- the second place has at most n events
abbrev IsShort : ℕ → Front → Front → Type 0
IsShort n p q = length q ≤ n

opened_short : (es : Front) → SameBrackets (IsShort (length es)) (opened es) (opened es)
opened_short [] = tt
opened_short (e ∷ es) =
    same_after (IsShort (suc (length es))) e es es (opened es) (opened es) (omega arith)
    (same_weaken (IsShort (length es)) (IsShort (suc (length es))) (λ p q h. omega (arith, h)) (opened es) (opened es) (opened_short es))

place_short : (makes : Event → Option ℕ) (i : ℕ) (es : Front) → BothOrNeither (IsShort (length es)) (place_before makes i es) (place_before makes i es)
place_short makes i [] = tt
place_short makes i (e ∷ es) =
    both_or (IsShort (suc (length es))) (place_before makes i es) _ (place_before makes i es) _
    (both_weaken (IsShort (length es)) (IsShort (suc (length es))) (λ p q h. omega (arith, h)) (place_before makes i es) (place_before makes i es) (place_short makes i es))
    (both_if (IsShort (suc (length es))) (is_number i (makes e)) es es (omega arith))

short_root : (t : Bool) (a : Option Front) (n : ℕ) → BothOrNeither (IsShort n) a a → BothOrNeither (IsShort n) (if t then Some [] else a) (if t then Some [] else a)
short_root true a n h = omega arith
short_root false a n h = h

named_short : (e : Event) (es : Front) → BothOrNeither (IsShort (length es)) (place_named e es) (place_named e es)
named_short (Before id) es = place_short resource_made id.0 es
named_short (Enter snap) es = short_root (snap.0 == 0) (place_before capture_made snap.0 es) (length es) (place_short capture_made snap.0 es)
named_short e es = same_opener (IsShort (length es)) (closed_bracket e) (opened es) (opened es) (opened_short es)

pub step_short : (e : Event) (es : Front) → length (causal_step (e ∷ es)) ≤ length es
step_short e es = both_unwrap (IsShort (length es)) (place_named e es) (place_named e es) es es (named_short e es) (omega arith)

-- more steps than events change nothing
enough : (n m : ℕ) (es : Front) (v : ℕ) → length es ≤ n → length es ≤ m → met_within n es v ≡ met_within m es v
enough zero zero es v h k = refl
enough zero (suc m) [] v h k = refl
enough zero (suc m) (e ∷ es) v h k = absurd (omega (arith, h))
enough (suc n) zero [] v h k = refl
enough (suc n) zero (e ∷ es) v h k = absurd (omega (arith, k))
enough (suc n) (suc m) [] v h k = refl
enough (suc n) (suc m) (e ∷ es) v h k =
    let s = step_short e es in
    ap (met_here (value_bound v e) es) (enough n m (causal_step (e ∷ es)) v (omega (arith, h, s)) (omega (arith, k, s)))

pub met_none : (v : ℕ) → met_binding [] v ≡ None
unfolding met_binding
met_none v = refl

-- the walk, by one step
pub met_step : (e : Event) (es : Front) (v : ℕ) → met_binding (e ∷ es) v ≡ met_here (value_bound v e) es (met_binding (causal_step (e ∷ es)) v)
unfolding met_binding
met_step e es v =
    ap (met_here (value_bound v e) es) (enough (length es) (length (causal_step (e ∷ es))) (causal_step (e ∷ es)) v (step_short e es) (omega arith))
