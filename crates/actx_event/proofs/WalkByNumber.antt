-- The walk by numbers is the walk on fronts.
use Rattle.std.proofs.Common.{◌≡◌, ℕ, zero, suc, ◌<◌, ◌≤◌, Bool, true, false, List, [], ◌∷◌, ◌++◌, length, map, Option, Some, None, option_to_list, if◌then◌else◌, refl, sym, ap, ap₂, ◌∙◌, subst, arith}
use Rattle.std.specs.Prelude.{slice_get, option_and_then, is_some}
use Rattle.actx_event.specs.declared.value.Shown.{Shown}
use Rattle.actx_event.specs.declared.event.Event.{Event}
use Rattle.actx_event.specs.Event.{value_bound, binds}
use Rattle.actx_event.specs.Front.{Front, front}
use Rattle.actx_event.specs.Walk.{causal_step, Met, met_here, met_within, met_binding, walk_within, chain}
use Rattle.actx_event.specs.Numbers.{step_number, binds_at, met_number_within, met_number, walk_number_within, chain_at}
use Rattle.actx_event.specs.Agreement.{BothOrNeither}
use Rattle.actx_event.specs.Laws.{number_of}
use Rattle.actx_event.proofs.Matching.{both_weaken}
use Rattle.actx_event.proofs.ByNumber.{has, front_suc, front_length, step_at, step_less}

-- number n, below p, is that of the event that was met
pub record MetAt (log : List Event) (v p n : ℕ) (m : Met) : Type 0 where
  pub below : n < p
  pub place : front log n ≡ m.place
  pub value : option_and_then (value_bound v) (slice_get log n) ≡ Some m.value

met_more : (log : List Event) (v p q : ℕ) → p ≤ q → (n : ℕ) (m : Met) → MetAt log v p n m → MetAt log v q n m
met_more log v p q le n m h = record { below = omega (arith, h.below); place = h.place; value = h.value }

-- the event behind place n binds v, or the walk goes on
met_next : (log : List Event) (v n : ℕ) (e : Event) (o : Option Shown) (a : Option ℕ) (b : Option Met) → slice_get log n ≡ Some e → value_bound v e ≡ o → BothOrNeither (MetAt log v (suc n)) a b → BothOrNeither (MetAt log v (suc n)) (if is_some o then Some n else a) (met_here o (front log n) b)
met_next log v n e None a b there is h = h
met_next log v n e (Some x) a b there is h = record { below = omega arith; place = refl; value = ap (option_and_then (value_bound v)) there ∙ is }

pub met_within_number : (k : ℕ) (log : List Event) (p v : ℕ) → p ≤ length log → BothOrNeither (MetAt log v p) (met_number_within k log p v) (met_within k (front log p) v)
met_within_number zero log p v h = tt
met_within_number (suc k) log zero v h = tt
met_within_number (suc k) log (suc n) v h =
    let r = has log n (omega (arith, h)) in
    let s = step_at log n r.event r.there in
    let here : front log (suc n) ≡ r.event ∷ front log n = front_suc log n ∙ ap (λ o. option_to_list o ++ front log n) r.there in
    let older : BothOrNeither (MetAt log v (suc n)) (met_number_within k log (step_number log (suc n)) v) (met_within k (front log (step_number log (suc n))) v) =
    both_weaken (MetAt log v (step_number log (suc n))) (MetAt log v (suc n)) (met_more log v (step_number log (suc n)) (suc n) (omega (arith, s.0))) _ _ (met_within_number k log (step_number log (suc n)) v (omega (arith, s.0, h))) in
    let at : causal_step (front log (suc n)) ≡ causal_step (r.event ∷ front log n) = ap causal_step here in
    let on : BothOrNeither (MetAt log v (suc n)) (met_number_within k log (step_number log (suc n)) v) (met_within k (causal_step (r.event ∷ front log n)) v) =
    subst (λ q. BothOrNeither (MetAt log v (suc n)) (met_number_within k log (step_number log (suc n)) v) (met_within k q v)) (s.1 ∙ at) older in
    subst (λ q. BothOrNeither (MetAt log v (suc n)) (met_number_within (suc k) log (suc n) v) (met_within (suc k) q v)) (sym here)
    (subst (λ o. BothOrNeither (MetAt log v (suc n)) (if binds_at v o then Some n else met_number_within k log (step_number log (suc n)) v) (met_within (suc k) (r.event ∷ front log n) v)) (sym r.there)
    (met_next log v n r.event (value_bound v r.event) _ _ r.there refl on))

-- the binding that is met, by its number
pub met_agrees : (log : List Event) (p v : ℕ) → p ≤ length log → BothOrNeither (MetAt log v p) (met_number log p v) (met_binding (front log p) v)
unfolding met_number met_binding
met_agrees log p v h =
    subst (λ k. BothOrNeither (MetAt log v p) (met_number_within p log p v) (met_within k (front log p) v)) (sym (front_length log p h)) (met_within_number p log p v h)

-- more steps than events change nothing
enough : (n m : ℕ) (log : List Event) (p v : ℕ) → p ≤ n → p ≤ m → p ≤ length log → met_number_within n log p v ≡ met_number_within m log p v
enough zero zero log p v h k l = refl
enough zero (suc m) log zero v h k l = refl
enough zero (suc m) log (suc p) v h k l = absurd (omega (arith, h))
enough (suc n) zero log zero v h k l = refl
enough (suc n) zero log (suc p) v h k l = absurd (omega (arith, k))
enough (suc n) (suc m) log zero v h k l = refl
enough (suc n) (suc m) log (suc p) v h k l =
    let s = step_less log p (omega (arith, l)) in
    ap (λ o. if binds_at v (slice_get log p) then Some p else o) (enough n m log (step_number log (suc p)) v (omega (arith, s, h)) (omega (arith, s, k)) (omega (arith, s, l)))

pub met_number_none : (log : List Event) (v : ℕ) → met_number log 0 v ≡ None
unfolding met_number
met_number_none log v = refl

-- the walk, by one step
pub met_number_step : (log : List Event) (n v : ℕ) → n < length log → met_number log (suc n) v ≡ (if binds_at v (slice_get log n) then Some n else met_number log (step_number log (suc n)) v)
unfolding met_number
met_number_step log n v h =
    let s = step_less log n h in
    ap (λ o. if binds_at v (slice_get log n) then Some n else o) (enough n (step_number log (suc n)) log (step_number log (suc n)) v s (omega arith) (omega (arith, s, h)))

chain_if : (t : Bool) (xs : List ℕ) (ys : List Front) → map length ys ≡ xs → map length (if t then [] else ys) ≡ (if t then [] else xs)
chain_if true xs ys h = refl
chain_if false xs ys h = h

walk_within_number : (k : ℕ) (log : List Event) (p v : ℕ) → p ≤ length log → map length (walk_within k (front log p) v) ≡ walk_number_within k log p v
walk_within_number zero log p v h = refl
walk_within_number (suc k) log zero v h = refl
walk_within_number (suc k) log (suc n) v h =
    let r = has log n (omega (arith, h)) in
    let s = step_at log n r.event r.there in
    let here : front log (suc n) ≡ r.event ∷ front log n = front_suc log n ∙ ap (λ o. option_to_list o ++ front log n) r.there in
    let on : map length (walk_within k (causal_step (r.event ∷ front log n)) v) ≡ walk_number_within k log (step_number log (suc n)) v =
    ap (λ q. map length (walk_within k q v)) (sym (s.1 ∙ ap causal_step here)) ∙ walk_within_number k log (step_number log (suc n)) v (omega (arith, s.0, h)) in
    ap (λ q. map length (walk_within (suc k) q v)) here ∙ (ap₂ (λ n ns. n ∷ ns) (front_length log n (omega (arith, h))) (chain_if (binds v r.event) _ _ on) ∙ ap (λ o. n ∷ (if binds_at v o then [] else walk_number_within k log (step_number log (suc n)) v)) (sym r.there))

-- the chain, by numbers
pub chain_agrees : (log : List Event) (p v : ℕ) → p ≤ length log → map length (chain (front log p) v) ≡ chain_at log p v
unfolding chain chain_at
chain_agrees log p v h =
    ap (λ k. map length (walk_within k (front log p) v)) (front_length log p h) ∙ walk_within_number p log p v h

number_met : (log : List Event) (v p : ℕ) (a : Option ℕ) (b : Option Met) → p ≤ length log → BothOrNeither (MetAt log v p) a b → number_of b ≡ a
number_met log v p None None h k = refl
number_met log v p (Some n) (Some m) h k = ap Some (ap length (sym k.place) ∙ front_length log n (omega (arith, k.below, h)))
number_met log v p None (Some m) h k = absurd k
number_met log v p (Some n) None h k = absurd k

pub met_numbers_agree : (log : List Event) (p v : ℕ) → p ≤ length log → number_of (met_binding (front log p) v) ≡ met_number log p v
met_numbers_agree log p v h = number_met log v p (met_number log p v) (met_binding (front log p) v) h (met_agrees log p v h)

chain_enough : (n m : ℕ) (log : List Event) (p v : ℕ) → p ≤ n → p ≤ m → p ≤ length log → walk_number_within n log p v ≡ walk_number_within m log p v
chain_enough zero zero log p v h k l = refl
chain_enough zero (suc m) log zero v h k l = refl
chain_enough zero (suc m) log (suc p) v h k l = absurd (omega (arith, h))
chain_enough (suc n) zero log zero v h k l = refl
chain_enough (suc n) zero log (suc p) v h k l = absurd (omega (arith, k))
chain_enough (suc n) (suc m) log zero v h k l = refl
chain_enough (suc n) (suc m) log (suc p) v h k l =
    let s = step_less log p (omega (arith, l)) in
    ap (λ ns. p ∷ (if binds_at v (slice_get log p) then [] else ns)) (chain_enough n m log (step_number log (suc p)) v (omega (arith, s, h)) (omega (arith, s, k)) (omega (arith, s, l)))

pub chain_none : (log : List Event) (v : ℕ) → chain_at log 0 v ≡ []
unfolding chain_at
chain_none log v = refl

-- the chain, by one step
pub chain_step : (log : List Event) (n v : ℕ) → n < length log → chain_at log (suc n) v ≡ n ∷ (if binds_at v (slice_get log n) then [] else chain_at log (step_number log (suc n)) v)
unfolding chain_at
chain_step log n v h =
    let s = step_less log n h in
    ap (λ ns. n ∷ (if binds_at v (slice_get log n) then [] else ns)) (chain_enough n (step_number log (suc n)) log (step_number log (suc n)) v s (omega arith) (omega (arith, s, h)))

-- a binding that was met stands before the place
pub met_below : (log : List Event) (p v n : ℕ) → p ≤ length log → met_number log p v ≡ Some n → n < p
met_below log p v n h is = go (met_number log p v) (met_binding (front log p) v) (met_agrees log p v h) is
  where
    go : (a : Option ℕ) (b : Option Met) → BothOrNeither (MetAt log v p) a b → a ≡ Some n → n < p
    go None b k e = absurd cc
    go (Some m) None k e = absurd k
    go (Some m) (Some x) k e = let same : m ≡ n = cc in omega (arith, k.below)
