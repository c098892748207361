-- What it means that a log is valid, and that a failure is the first.
use Rattle.std.proofs.Common.{◌≡◌, ℕ, zero, suc, ◌<◌, ◌≤◌, Bool, true, false, ◌&&◌, List, [], ◌∷◌, ◌++◌, length, take, drop, reverse, Option, Some, None, option_to_list, refl, sym, ap, ap₂, ◌∙◌, arith, take-append-drop, take_all}
use Rattle.std.proofs.lemmas.List.{reverse-append, length-reverse}
use Rattle.std.specs.Prelude.{slice_get, ◌↔◌}
use Rattle.std.specs.Option.{option_or}
use Rattle.actx_event.specs.declared.value.Shown.{Shown}
use Rattle.actx_event.specs.declared.event.VarId.{VarId}
use Rattle.actx_event.specs.declared.event.Event.{Event}
use Rattle.actx_event.specs.declared.event.Event.TheVariants.{Get}
use Rattle.actx_event.specs.declared.bracket.Open.{Open}
use Rattle.actx_event.specs.declared.valid.Failure.{Failure}
use Rattle.actx_event.specs.declared.valid.Rule.{Rule}
use Rattle.actx_event.specs.declared.valid.Rule.TheVariants.{Numbering, Introduction, Nesting, Execution, Reading, Closing}
use Rattle.actx_event.specs.Front.{Front, front}
use Rattle.actx_event.specs.Brackets.{opened, nests, IsClosed}
use Rattle.actx_event.specs.Walk.{nearest_binding}
use Rattle.actx_event.specs.Valid.{is_numbered, is_introduced, is_nested, is_executed, is_read, unless, broken_rule, failure_at, first_broken, left_open, first_failure, IsValid}
use Rattle.actx_event.specs.Laws.{MeetsRules, MeetsAll, UnbrokenBelow}
use Rattle.actx_event.proofs.SameValue.{value_is}
use Rattle.actx_event.proofs.ByNumber.{has, front_suc, front_length}

-- a rule that is broken nowhere
unless_none : (t : Bool) (r : Rule) (later : Option Rule) → unless t r later ≡ None → (t ≡ true) × (later ≡ None)
unless_none true r later h = (refl, h)
unless_none false r later h = absurd cc

unless_met : (t : Bool) (r : Rule) (later : Option Rule) → t ≡ true → later ≡ None → unless t r later ≡ None
unless_met true r later h k = k
unless_met false r later h k = absurd cc

pub meets_rules : (e : Event) (es : Front) → broken_rule e es ≡ None → MeetsRules e es
meets_rules e es h =
    let a = unless_none (is_numbered e es) Numbering _ h in
    let b = unless_none (is_introduced e es) Introduction _ a.1 in
    let c = unless_none (is_nested e es) Nesting _ b.1 in
    let d = unless_none (is_executed e es) Execution _ c.1 in
    let f = unless_none (is_read e es) Reading None d.1 in
    record { numbered = a.0; introduced = b.0; nested = c.0; executed = d.0; read = f.0 }

rules_met : (e : Event) (es : Front) → MeetsRules e es → broken_rule e es ≡ None
rules_met e es m =
    unless_met (is_numbered e es) Numbering _ m.numbered
    (unless_met (is_introduced e es) Introduction _ m.introduced
    (unless_met (is_nested e es) Nesting _ m.nested
    (unless_met (is_executed e es) Execution _ m.executed
    (unless_met (is_read e es) Reading None m.read refl))))

or_none : {A : Type 0} (a b : Option A) → option_or a b ≡ None → (a ≡ None) × (b ≡ None)
or_none None b h = (refl, h)
or_none (Some x) b h = absurd cc

failure_none : (n : ℕ) (o : Option Rule) → failure_at n o ≡ None → o ≡ None
failure_none n None h = refl
failure_none n (Some r) h = absurd cc

-- a place of a log is an older part of it
pub front_split : (log : List Event) (p : ℕ) → reverse log ≡ reverse (drop p log) ++ front log p
front_split log p = ap reverse (sym (take-append-drop p log)) ∙ reverse-append (take p log) (drop p log)

pub front_all : (log : List Event) → front log (length log) ≡ reverse log
front_all log = ap reverse (take_all (length log) log (omega arith))

unbroken_older : (later es : Front) → first_broken (later ++ es) ≡ None → first_broken es ≡ None
unbroken_older [] es h = h
unbroken_older (e ∷ later) es h = unbroken_older later es (or_none (first_broken (later ++ es)) _ h).0

-- the place behind an event
pub front_behind : (log : List Event) (n : ℕ) (e : Event) → slice_get log n ≡ Some e → front log (suc n) ≡ e ∷ front log n
front_behind log n e there = front_suc log n ∙ ap (λ o. option_to_list o ++ front log n) there

unbroken_at : (log : List Event) (n : ℕ) (e : Event) → first_broken (reverse log) ≡ None → slice_get log n ≡ Some e → broken_rule e (front log n) ≡ None
unbroken_at log n e h there =
    let split : reverse log ≡ reverse (drop (suc n) log) ++ (e ∷ front log n) = front_split log (suc n) ∙ ap (λ q. reverse (drop (suc n) log) ++ q) (front_behind log n e there) in
    let here : first_broken (e ∷ front log n) ≡ None = unbroken_older (reverse (drop (suc n) log)) (e ∷ front log n) (ap first_broken (sym split) ∙ h) in
    failure_none (length (front log n)) (broken_rule e (front log n)) (or_none (first_broken (front log n)) _ here).1

pub one_more_unbroken : (log : List Event) (n : ℕ) (e : Event) → slice_get log n ≡ Some e → first_broken (front log n) ≡ None → broken_rule e (front log n) ≡ None → first_broken (front log (suc n)) ≡ None
one_more_unbroken log n e there h k =
    ap first_broken (front_behind log n e there) ∙ ap₂ (λ a b. option_or a (failure_at (length (front log n)) b)) h k

pub unbroken_below : (log : List Event) (p : ℕ) → p ≤ length log → UnbrokenBelow log p → first_broken (front log p) ≡ None
unbroken_below log zero le h = refl
unbroken_below log (suc n) le h =
    let r = has log n (omega (arith, le)) in
    one_more_unbroken log n r.event r.there (unbroken_below log n (omega arith) (λ m e lt. h m e (omega (arith, lt)))) (h n r.event (omega arith) r.there)

left_none : (os : List (Open Front)) (n : ℕ) → left_open os n ≡ None → os ≡ []
left_none [] n h = refl
left_none (o ∷ os) n h = absurd cc

-- valid exactly where all rules are met
pub meets_all : (log : List Event) → IsValid log → MeetsAll log
meets_all log h =
    let k = or_none (first_broken (reverse log)) (left_open (opened (reverse log)) (length (reverse log))) h in
    record {
      each = λ n e there. meets_rules e (front log n) (unbroken_at log n e k.0 there);
      closed = left_none (opened (reverse log)) (length (reverse log)) k.1;
    }

valid_where_met : (log : List Event) → MeetsAll log → IsValid log
valid_where_met log m =
    let none : first_broken (reverse log) ≡ None = ap first_broken (sym (front_all log)) ∙ unbroken_below log (length log) (omega arith) (λ n e lt there. rules_met e (front log n) (m.each n e there)) in
    ap₂ (λ a os. option_or a (left_open os (length (reverse log)))) none m.closed

pub valid_where : (log : List Event) → IsValid log ↔ MeetsAll log
valid_where log = (meets_all log, valid_where_met log)

pub valid_read : (log : List Event) (n : ℕ) (id : VarId) (value : Shown) → IsValid log → slice_get log n ≡ Some (Get id value) → value ≡ nearest_binding (front log n) id.0
valid_read log n id value h there =
    value_is value (nearest_binding (front log n) id.0) ((meets_all log h).each n (Get id value) there).read

-- a valid log is closed
nests_at : (log : List Event) (p : ℕ) → p ≤ length log → MeetsAll log → nests (front log p) ≡ true
nests_at log zero le m = refl
nests_at log (suc n) le m =
    let r = has log n (omega (arith, le)) in
    ap nests (front_behind log n r.event r.there) ∙ ap₂ (λ a b. a && b) (m.each n r.event r.there).nested (nests_at log n (omega arith) m)

pub valid_closed : (log : List Event) → IsValid log → IsClosed (reverse log)
valid_closed log h =
    let m = meets_all log h in
    record { nesting = ap nests (sym (front_all log)) ∙ nests_at log (length log) (omega arith) m; none_open = m.closed }

-- the first failure
or_some : {A : Type 0} (a b : Option A) (x : A) → a ≡ Some x → option_or a b ≡ Some x
or_some None b x h = absurd cc
or_some (Some y) b x h = h

failure_older : (later es : Front) (f : Failure) → first_broken es ≡ Some f → first_broken (later ++ es) ≡ Some f
failure_older [] es f h = h
failure_older (e ∷ later) es f h = or_some (first_broken (later ++ es)) _ f (failure_older later es f h)

get_within : (log : List Event) (n : ℕ) (e : Event) → slice_get log n ≡ Some e → n < length log
get_within [] n e h = absurd cc
get_within (d ∷ log) zero e h = omega arith
get_within (d ∷ log) (suc n) e h = omega (arith, get_within log n e h)

pub fails_at : (log : List Event) (n : ℕ) (e : Event) (r : Rule) → slice_get log n ≡ Some e → first_broken (front log n) ≡ None → broken_rule e (front log n) ≡ Some r → first_failure log ≡ Some (record { place = n; rule = r })
fails_at log n e r there none broken =
    let f : Failure = record { place = n; rule = r } in
    let long : length (front log n) ≡ n = front_length log n (omega (arith, get_within log n e there)) in
    let here : first_broken (e ∷ front log n) ≡ Some f = ap₂ (λ a b. option_or a (failure_at (length (front log n)) b)) none broken ∙ ap (λ k. Some (record { place = k; rule = r })) long in
    let split : reverse log ≡ reverse (drop (suc n) log) ++ (e ∷ front log n) = front_split log (suc n) ∙ ap (λ q. reverse (drop (suc n) log) ++ q) (front_behind log n e there) in
    or_some (first_broken (reverse log)) _ f (ap first_broken split ∙ failure_older (reverse (drop (suc n) log)) (e ∷ front log n) f here)

pub failure_is_first : (log : List Event) (n : ℕ) (e : Event) (r : Rule) → UnbrokenBelow log n → slice_get log n ≡ Some e → broken_rule e (front log n) ≡ Some r → first_failure log ≡ Some (record { place = n; rule = r })
failure_is_first log n e r below there broken =
    fails_at log n e r there (unbroken_below log n (omega (arith, get_within log n e there)) below) broken

pub ends_with : (log : List Event) → first_broken (front log (length log)) ≡ None → first_failure log ≡ left_open (opened (reverse log)) (length log)
ends_with log none =
    ap₂ (λ a k. option_or a (left_open (opened (reverse log)) k)) (ap first_broken (sym (front_all log)) ∙ none) (length-reverse log)

pub closing_fails : (log : List Event) (o : Open Front) (os : List (Open Front)) → UnbrokenBelow log (length log) → opened (reverse log) ≡ o ∷ os → first_failure log ≡ Some (record { place = length log; rule = Closing })
closing_fails log o os below is =
    ends_with log (unbroken_below log (length log) (omega arith) below) ∙ ap (λ q. left_open q (length log)) is
