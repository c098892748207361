-- One turn of the walk's loop.
use Rattle.std.proofs.Common.{◌≡◌, ℕ, zero, suc, ◌-◌, ◌<◌, ◌≤◌, Bool, List, [], ◌∷◌, length, Option, Some, None, if◌then◌else◌, refl, sym, ap, ◌∙◌, arith}
use Rattle.std.specs.Prelude.{slice_get, is_some}
use Rattle.std.specs.Option.{option_copied}
use denote.Ref.{Bor}
use Rattle.actx_event.specs.declared.value.Shown.{Shown}
use Rattle.actx_event.specs.declared.event.Event.{Event}
use Rattle.actx_event.specs.Event.{value_bound, binds}
use Rattle.actx_event.specs.Numbers.{binds_at, step_number, met_number, chain_at}
use Rattle.actx_event.proofs.ByNumber.{step_less}
use Rattle.actx_event.proofs.WalkByNumber.{met_number_step, chain_step}

-- what the code finds out of the event
pub binds_found : (v : ℕ) (e : Event) (r : Option (Bor Shown)) → option_copied r ≡ value_bound v e → binds v e ≡ is_some r
binds_found v e r h = ap is_some (sym h) ∙ copied r
  where
    copied : (r : Option (Bor Shown)) → is_some (option_copied r) ≡ is_some r
    copied None = refl
    copied (Some x) = refl

pub step_falls : (log : List Event) (at : ℕ) → 0 < at → at ≤ length log → step_number log at < at
step_falls log zero h le = absurd (omega (arith, h))
step_falls log (suc n) h le = omega (arith, step_less log n (omega arith))

pub met_turn : (log : List Event) (at v : ℕ) (e : Event) (t : Bool) → 0 < at → at ≤ length log → slice_get log (at - 1) ≡ Some e → binds v e ≡ t → met_number log at v ≡ (if t then Some (at - 1) else met_number log (step_number log at) v)
met_turn log zero v e t h le there is = absurd (omega (arith, h))
met_turn log (suc n) v e t h le there is =
    let same : suc n - 1 ≡ n = omega arith in
    let here : slice_get log n ≡ Some e = ap (slice_get log) (sym same) ∙ there in
    met_number_step log n v (omega arith) ∙ (ap (λ o. if binds_at v o then Some n else met_number log (step_number log (suc n)) v) here ∙ (ap (λ b. if b then Some n else met_number log (step_number log (suc n)) v) is ∙ ap (λ k. if t then Some k else met_number log (step_number log (suc n)) v) (sym same)))

pub chain_turn : (log : List Event) (at v : ℕ) (e : Event) (t : Bool) → 0 < at → at ≤ length log → slice_get log (at - 1) ≡ Some e → binds v e ≡ t → chain_at log at v ≡ (at - 1) ∷ (if t then [] else chain_at log (step_number log at) v)
chain_turn log zero v e t h le there is = absurd (omega (arith, h))
chain_turn log (suc n) v e t h le there is =
    let same : suc n - 1 ≡ n = omega arith in
    let here : slice_get log n ≡ Some e = ap (slice_get log) (sym same) ∙ there in
    chain_step log n v (omega arith) ∙ (ap (λ o. n ∷ (if binds_at v o then [] else chain_at log (step_number log (suc n)) v)) here ∙ (ap (λ b. n ∷ (if b then [] else chain_at log (step_number log (suc n)) v)) is ∙ ap (λ k. k ∷ (if t then [] else chain_at log (step_number log (suc n)) v)) (sym same)))
