-- Places by number are places as fronts: the step.
use Rattle.std.proofs.Common.{◌≡◌, ℕ, zero, suc, ◌<◌, ◌≤◌, ◌==◌, Bool, true, false, List, [], ◌∷◌, ◌++◌, length, map, take, reverse, Option, Some, None, option_to_list, if◌then◌else◌, refl, sym, ap, ap₂, ◌∙◌, subst, arith, length-take-le}
use Rattle.std.proofs.lemmas.List.{reverse-append, length-reverse}
use Rattle.std.specs.Prelude.{slice_get, option_and_then}
use Rattle.std.specs.Option.{option_or}
use Rattle.actx_event.specs.declared.event.Event.{Event}
use Rattle.actx_event.specs.declared.event.Event.TheVariants.{Before, Enter}
use Rattle.actx_event.specs.declared.bracket.Open.{Open}
use Rattle.actx_event.specs.Laws.{numbered}
use Rattle.actx_event.specs.Event.{is_number, resource_made, capture_made, closed_bracket, declaration_said}
use Rattle.actx_event.specs.Noted.{noted_under}
use Rattle.actx_event.specs.Front.{Front, front, place_before}
use Rattle.actx_event.specs.Brackets.{opened}
use Rattle.actx_event.specs.Walk.{place_named, causal_step, declaration}
use Rattle.actx_event.specs.Numbers.{opened_behind, opened_at, first_made, place_number_named, step_behind, step_number, declaration_at}
use Rattle.actx_event.specs.Agreement.{BothOrNeither, SameBrackets}
use Rattle.actx_event.proofs.Matching.{both_or, both_if, both_unwrap, same_after, same_opener, same_weaken, both_weaken}

take_suc : (log : List Event) (n : ℕ) → take (suc n) log ≡ take n log ++ option_to_list (slice_get log n)
take_suc [] zero = refl
take_suc [] (suc n) = refl
take_suc (e ∷ log) zero = refl
take_suc (e ∷ log) (suc n) = ap (λ es. e ∷ es) (take_suc log n)

reverse_option : (o : Option Event) → reverse (option_to_list o) ≡ option_to_list o
reverse_option None = refl
reverse_option (Some e) = refl

-- the place behind event n
pub front_suc : (log : List Event) (n : ℕ) → front log (suc n) ≡ option_to_list (slice_get log n) ++ front log n
front_suc log n =
    ap reverse (take_suc log n) ∙ (reverse-append (take n log) (option_to_list (slice_get log n)) ∙ ap (λ o. o ++ front log n) (reverse_option (slice_get log n)))

pub front_length : (log : List Event) (p : ℕ) → p ≤ length log → length (front log p) ≡ p
front_length log p h = length-reverse (take p log) ∙ length-take-le p log h

-- an event that a log has
pub record Has (log : List Event) (n : ℕ) : Type 0 where
  pub event : Event
  pub there : slice_get log n ≡ Some event

pub has : (log : List Event) (n : ℕ) → n < length log → Has log n
has [] n h = absurd (omega (arith, h))
has (e ∷ log) zero h = record { event = e; there = refl }
has (e ∷ log) (suc n) h = let r = has log n (omega (arith, h)) in record { event = r.event; there = r.there }

-- number n, at most N, is this place
abbrev pub AtNumber : List Event → ℕ → ℕ → Front → Type 0
AtNumber log N n es = (n ≤ N) × (front log n ≡ es)

at_more : (log : List Event) (N n : ℕ) (es : Front) → AtNumber log N n es → AtNumber log (suc N) n es
at_more log N n es h = (omega (arith, h.0), h.1)

at_self : (log : List Event) (n : ℕ) → AtNumber log n n (front log n)
at_self log n = (omega arith, refl)

opened_next : (log : List Event) (n : ℕ) (o : Option Event) → SameBrackets (AtNumber log (suc n)) (opened_at log n) (opened (front log n)) → SameBrackets (AtNumber log (suc n)) (opened_behind o n (opened_at log n)) (opened (option_to_list o ++ front log n))
opened_next log n None h = h
opened_next log n (Some e) h = same_after (AtNumber log (suc n)) e n (front log n) (opened_at log n) (opened (front log n)) (omega arith, refl) h

pub opened_number : (log : List Event) (p : ℕ) → SameBrackets (AtNumber log p) (opened_at log p) (opened (front log p))
opened_number log zero = tt
opened_number log (suc n) =
    subst (λ es. SameBrackets (AtNumber log (suc n)) (opened_at log (suc n)) (opened es)) (sym (front_suc log n))
    (opened_next log n (slice_get log n)
    (same_weaken (AtNumber log n) (AtNumber log (suc n)) (at_more log n) (opened_at log n) (opened (front log n)) (opened_number log n)))

number_none : (log : List Event) (N : ℕ) (a : Option ℕ) (b : Option Front) → BothOrNeither (AtNumber log N) a b → BothOrNeither (AtNumber log N) (option_or a None) b
number_none log N None None h = h
number_none log N (Some n) (Some q) h = h
number_none log N None (Some q) h = absurd h
number_none log N (Some n) None h = absurd h

made_next : (makes : Event → Option ℕ) (i : ℕ) (log : List Event) (n : ℕ) (o : Option Event) → BothOrNeither (AtNumber log (suc n)) (first_made makes i log n) (place_before makes i (front log n)) → BothOrNeither (AtNumber log (suc n)) (option_or (first_made makes i log n) (if is_number i (option_and_then makes o) then Some n else None)) (place_before makes i (option_to_list o ++ front log n))
made_next makes i log n None h = number_none log (suc n) (first_made makes i log n) (place_before makes i (front log n)) h
made_next makes i log n (Some e) h =
    both_or (AtNumber log (suc n)) (first_made makes i log n) _ (place_before makes i (front log n)) _ h
    (both_if (AtNumber log (suc n)) (is_number i (makes e)) n (front log n) (omega arith, refl))

pub made_number : (makes : Event → Option ℕ) (i : ℕ) (log : List Event) (p : ℕ) → BothOrNeither (AtNumber log p) (first_made makes i log p) (place_before makes i (front log p))
made_number makes i log zero = tt
made_number makes i log (suc n) =
    subst (λ es. BothOrNeither (AtNumber log (suc n)) (first_made makes i log (suc n)) (place_before makes i es)) (sym (front_suc log n))
    (made_next makes i log n (slice_get log n)
    (both_weaken (AtNumber log n) (AtNumber log (suc n)) (at_more log n) (first_made makes i log n) (place_before makes i (front log n)) (made_number makes i log n)))

root_number : (log : List Event) (N : ℕ) (t : Bool) (a : Option ℕ) (b : Option Front) → BothOrNeither (AtNumber log N) a b → BothOrNeither (AtNumber log N) (if t then Some 0 else a) (if t then Some [] else b)
root_number log N true a b h = (omega arith, refl)
root_number log N false a b h = h

named_number : (e : Event) (log : List Event) (n : ℕ) → BothOrNeither (AtNumber log n) (place_number_named e log n) (place_named e (front log n))
named_number (Before id) log n = made_number resource_made id.0 log n
named_number (Enter snap) log n =
    root_number log n (snap.0 == 0) (first_made capture_made snap.0 log n) (place_before capture_made snap.0 (front log n)) (made_number capture_made snap.0 log n)
named_number e log n = same_opener (AtNumber log n) (closed_bracket e) (opened_at log n) (opened (front log n)) (opened_number log n)

step_behind_number : (e : Event) (log : List Event) (n : ℕ) → AtNumber log n (step_behind (Some e) log n) (causal_step (e ∷ front log n))
step_behind_number e log n = both_unwrap (AtNumber log n) (place_number_named e log n) (place_named e (front log n)) n (front log n) (named_number e log n) (at_self log n)

-- one step by numbers is one step on fronts
pub step_at : (log : List Event) (n : ℕ) (e : Event) → slice_get log n ≡ Some e → AtNumber log n (step_number log (suc n)) (causal_step (front log (suc n)))
step_at log n e h =
    subst (λ es. AtNumber log n (step_number log (suc n)) (causal_step es)) (sym (front_suc log n))
    (subst (λ o. AtNumber log n (step_behind o log n) (causal_step (option_to_list o ++ front log n))) (sym h) (step_behind_number e log n))

pub step_less : (log : List Event) (n : ℕ) → n < length log → step_number log (suc n) ≤ n
step_less log n h = let r = has log n h in (step_at log n r.event r.there).0

or_none : {A : Type 0} (a : Option A) → option_or a None ≡ a
or_none None = refl
or_none (Some x) = refl

declaration_next : (v : ℕ) (log : List Event) (n : ℕ) (o : Option Event) → declaration_at v log n ≡ declaration v (front log n) → option_or (declaration_at v log n) (noted_under v (option_and_then declaration_said o)) ≡ declaration v (option_to_list o ++ front log n)
declaration_next v log n None h = or_none (declaration_at v log n) ∙ h
declaration_next v log n (Some e) h = ap (λ d. option_or d (noted_under v (declaration_said e))) h

-- what a variable is said to be
pub declaration_number : (v : ℕ) (log : List Event) (p : ℕ) → declaration_at v log p ≡ declaration v (front log p)
declaration_number v log zero = refl
declaration_number v log (suc n) = declaration_next v log n (slice_get log n) (declaration_number v log n) ∙ ap (declaration v) (sym (front_suc log n))

numbered_same : (log : List Event) (p : ℕ) (ns : List (Open ℕ)) (os : List (Open Front)) → p ≤ length log → SameBrackets (AtNumber log p) ns os → map numbered os ≡ ns
numbered_same log p [] [] h s = refl
numbered_same log p (n ∷ ns) (o ∷ os) h s =
    let r = s.1 in
    let long : length o.before ≡ n.before = ap length (sym r.1) ∙ front_length log n.before (omega (arith, r.0, h)) in
    ap₂ (λ q qs. q ∷ qs) (ap₂ (λ b k. record { bracket = b; before = k }) (sym s.0) long) (numbered_same log p ns os h s.2)
numbered_same log p [] (o ∷ os) h s = absurd s
numbered_same log p (n ∷ ns) [] h s = absurd s

-- the open brackets by number are those on fronts
pub opened_agrees : (log : List Event) (p : ℕ) → p ≤ length log → map numbered (opened (front log p)) ≡ opened_at log p
opened_agrees log p h = numbered_same log p (opened_at log p) (opened (front log p)) h (opened_number log p)

pub steps_agree : (log : List Event) (n : ℕ) → n < length log → (step_number log (suc n) ≤ n) × (front log (step_number log (suc n)) ≡ causal_step (front log (suc n)))
steps_agree log n h = let r = has log n h in step_at log n r.event r.there
