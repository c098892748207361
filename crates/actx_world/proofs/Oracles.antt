-- Both worlds ask oracles that answer the same.
use Rattle.std.proofs.Common.{◌≡◌, ℕ, zero, suc, List, [], ◌∷◌, ◌++◌, length, Option, Some, None, refl, ap, ◌∙◌}
use Rattle.actx_event.specs.declared.event.Event.{Event}
use Rattle.actx_event.specs.Event.{resource_made, capture_made, declaration_said}
use Rattle.actx_event.specs.Noted.{Noted, with_note}
use Rattle.actx_event.specs.Mappings.{Mapping, kept_under, carried_after, carried}
use Rattle.actx_event.proofs.Agree.{agreement, value_agrees, exec_agrees, trigger_agrees}
use Rattle.actx_request.specs.Outcomes.{Stores}
use Rattle.actx_world.specs.Setup.{Bodies, Setup}
use Rattle.actx_world.specs.Moves.{Oracle, Next, On, TurnDue, Over, Unbuilt}
use Rattle.actx_world.specs.Rows.{next}
use Rattle.actx_world.specs.Ends.{Most, counted, times_said, Ended, ended_by}
use Rattle.actx_world.specs.Worlds.{walked, carrying, World, CarriedWorld, carried_past, moved_by, carried_moved_by, end_of, carried_end, step, world, carried_step, carried_world}
use Rattle.actx_world.specs.Laws.{SameAfter}

-- ---- counts

kept_length : (o : Option ℕ) (m : Mapping) (ns : List (Noted Mapping)) (n : ℕ) → length ns ≡ n → length (with_note (kept_under o m) ns) ≡ counted o n
kept_length None m ns n h = h
kept_length (Some i) m ns n h = ap suc h

noted_length : {A : Type 0} (o : Option (Noted A)) (ns : List (Noted A)) (n : ℕ) → length ns ≡ n → length (with_note o ns) ≡ counted o n
noted_length None ns n h = h
noted_length (Some x) ns n h = ap suc h

resources_length : (es : List Event) → length (carried es).resources ≡ times_said resource_made es
resources_length [] = refl
resources_length (e ∷ es) = kept_length (resource_made e) (carried es).current (carried es).resources (times_said resource_made es) (resources_length es)

captures_length : (es : List Event) → length (carried es).captures ≡ times_said capture_made es
captures_length [] = refl
captures_length (e ∷ es) = kept_length (capture_made e) (carried es).current (carried es).captures (times_said capture_made es) (captures_length es)

variables_length : (es : List Event) → length (carried es).declarations ≡ times_said declaration_said es
variables_length [] = refl
variables_length (e ∷ es) = noted_length (declaration_said e) (carried es).declarations (times_said declaration_said es) (variables_length es)

pub same_oracle : (es : List Event) → carrying (carried es) ≡ walked es
same_oracle es = λ i. record {
  read = λ v. value_agrees es (carried es) v (agreement es) i;
  execution = exec_agrees es (carried es) (agreement es) i;
  trigger = trigger_agrees es (carried es) (agreement es) i;
  resources = resources_length es i;
  captures = captures_length es i;
  variables = variables_length es i;
}

-- ---- what is carried

carried_all : (adds es : List Event) → carried_past adds (carried es) ≡ carried (adds ++ es)
carried_all [] es = refl
carried_all (e ∷ adds) es = ap (carried_after e) (carried_all adds es)

module _ {B : Type 0} where
  -- the world with the mappings of its events
  abbrev full : World B → CarriedWorld B
  full w = record { state = w.state; events = w.events; carried = carried w.events }

  full_moved : (e : Option Ended) (n : Next B) (w : World B) → carried_moved_by e n (full w) ≡ full (moved_by e n w)
  full_moved None (On m) w = ap (λ c. record { state = m.state; events = m.adds ++ w.events; carried = c }) (carried_all m.adds w.events)
  full_moved None TurnDue w = refl
  full_moved None (Over e) w = refl
  full_moved None Unbuilt w = refl
  full_moved (Some e) n w = refl

module _ {B : Type 0} (bodies : Bodies B) (setup : Setup) (most : Most) where
  -- a step by what the oracle answers
  stepped : World B → Oracle → CarriedWorld B
  stepped w o = carried_moved_by (ended_by most w.state w.events (next bodies setup o w.state)) (next bodies setup o w.state) (full w)

  full_step : (w : World B) → carried_step bodies setup most (full w) ≡ full (step bodies setup most w)
  unfolding stepped
  full_step w =
      ap (stepped w) (same_oracle w.events)
      ∙ full_moved (ended_by most w.state w.events (next bodies setup (walked w.events) w.state)) (next bodies setup (walked w.events) w.state) w

  pub same_world : (stores : Stores) (k : ℕ) → carried_world bodies setup most stores k ≡ full (world bodies setup most stores k)
  same_world stores zero = refl
  same_world stores (suc k) = ap (carried_step bodies setup most) (same_world stores k) ∙ full_step (world bodies setup most stores k)

  same_end : (w : World B) → carried_end bodies setup most (full w) ≡ end_of bodies setup most w
  same_end w = ap (λ o. ended_by most w.state w.events (next bodies setup o w.state)) (same_oracle w.events)

  pub same_after : (stores : Stores) (k : ℕ) → SameAfter bodies setup most stores k
  same_after stores k = record {
    events = ap (λ w. w.events) (same_world stores k);
    state = ap (λ w. w.state) (same_world stores k);
    carried = ap (λ w. w.carried) (same_world stores k);
    ended = ap (carried_end bodies setup most) (same_world stores k) ∙ same_end (world bodies setup most stores k);
  }
