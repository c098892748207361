-- What is carried agrees with the walk, after every list of events.
use Rattle.std.proofs.Common.{◌≡◌, ℕ, suc, ◌==◌, Bool, true, false, List, [], ◌∷◌, Option, Some, None, if◌then◌else◌, refl, sym, ap, ap₂, ◌∙◌, eqb-true}
use Rattle.std.specs.Prelude.{unwrap_or}
use Rattle.std.specs.Option.{option_or}
use Rattle.actx_event.specs.declared.event.Event.{Event}
use Rattle.actx_event.specs.declared.event.Event.TheVariants.{Before, Enter}
use Rattle.actx_event.specs.Event.{Binding, value_given, is_number, resource_made, capture_made, closed_bracket, binding_made, switched_off, trigger_said, declaration_said}
use Rattle.actx_event.specs.Noted.{Noted, noted_under, first_noted, with_note}
use Rattle.actx_event.specs.Front.{Front, place_before, first_said}
use Rattle.actx_event.specs.Brackets.{opened}
use Rattle.actx_event.specs.Execution.{exec, trigger, trigger_of}
use Rattle.actx_event.specs.Walk.{place_named, causal_step, Met, met_here, met_binding, epoch, declaration, default_of, left_by_off, met_value, nearest_binding}
use Rattle.actx_event.specs.Mappings.{Mapping, first_entry, Carried, times, mapping_named, with_binding, kept_under, with_off, carried_after, carried, entry_value, carried_value, carried_exec, carried_trigger}
use Rattle.actx_event.specs.Agreement.{entry_met, AgreesAt, BothOrNeither, Agreement}
use Rattle.actx_event.proofs.Matching.{both_or, both_or_none, both_if, both_unwrap, same_after, same_opener, same_innermost}
use Rattle.actx_event.proofs.Smaller.{met_none, met_step}

none_agrees : AgreesAt [] []
none_agrees v = ap (entry_met v) (sym (met_none v))

root_agrees : (t : Bool) (a : Option Mapping) (b : Option Front) → BothOrNeither AgreesAt a b → BothOrNeither AgreesAt (if t then Some [] else a) (if t then Some [] else b)
root_agrees true a b h = none_agrees
root_agrees false a b h = h

-- what an event leads back to
named_agrees : (e : Event) (es : Front) (c : Carried) → Agreement es c → BothOrNeither AgreesAt (mapping_named e c) (place_named e es)
named_agrees (Before id) es c g = g.resources id.0
named_agrees (Enter snap) es c g = root_agrees (snap.0 == 0) (first_noted snap.0 c.captures) (place_before capture_made snap.0 es) (g.captures snap.0)
named_agrees e es c g = same_opener AgreesAt (closed_bracket e) c.saved (opened es) g.saved

-- a further binding
binding_agrees : (b : Option Binding) (m : Mapping) (offs : List ℕ) (es : Front) (later : Option Met) (v : ℕ) → ((w : ℕ) → times w offs ≡ epoch w es) → first_entry v m ≡ entry_met v later → first_entry v (with_binding b offs m) ≡ entry_met v (met_here (value_given v b) es later)
binding_agrees None m offs es later v epochs h = h
binding_agrees (Some b) m offs es later v epochs h = go (v == b.variable) refl
  where
    go : (t : Bool) → v == b.variable ≡ t → (if t then Some (record { variable = b.variable; value = b.value; epoch = times b.variable offs }) else first_entry v m) ≡ entry_met v (met_here (if t then Some b.value else None) es later)
    go true is =
        let same : b.variable ≡ v = sym (eqb-true v b.variable is) in
        ap (λ n. Some (record { variable = b.variable; value = b.value; epoch = n })) (epochs b.variable) ∙ ap (λ w. Some (record { variable = w; value = b.value; epoch = epoch w es })) same
    go false is = h

current_agrees : (e : Event) (es : Front) (c : Carried) → Agreement es c → AgreesAt (with_binding (binding_made e) c.offs (unwrap_or (mapping_named e c) c.current)) (e ∷ es)
current_agrees e es c g v =
    let base : AgreesAt (unwrap_or (mapping_named e c) c.current) (causal_step (e ∷ es)) = both_unwrap AgreesAt (mapping_named e c) (place_named e es) c.current es (named_agrees e es c g) g.current in
    binding_agrees (binding_made e) (unwrap_or (mapping_named e c) c.current) c.offs es (met_binding (causal_step (e ∷ es)) v) v g.epochs (base v) ∙ ap (entry_met v) (sym (met_step e es v))

-- what is kept under a number
kept_agrees : (o : Option ℕ) (i : ℕ) (m : Mapping) (es : Front) (ns : List (Noted Mapping)) (b : Option Front) → AgreesAt m es → BothOrNeither AgreesAt (first_noted i ns) b → BothOrNeither AgreesAt (first_noted i (with_note (kept_under o m) ns)) (option_or b (if is_number i o then Some es else None))
kept_agrees None i m es ns b a h = both_or_none AgreesAt (first_noted i ns) b h
kept_agrees (Some j) i m es ns b a h = both_or AgreesAt (first_noted i ns) _ b _ h (both_if AgreesAt (i == j) m es a)

or_none : {A : Type 0} (a : Option A) → a ≡ option_or a None
or_none None = refl
or_none (Some x) = refl

noted_agrees : {A : Type 0} (o : Option (Noted A)) (i : ℕ) (ns : List (Noted A)) (b : Option A) → first_noted i ns ≡ b → first_noted i (with_note o ns) ≡ option_or b (noted_under i o)
noted_agrees None i ns b h = h ∙ or_none b
noted_agrees (Some n) i ns b h = ap (λ a. option_or a (noted_under i (Some n))) h

off_agrees : (o : Option ℕ) (v : ℕ) (ws : List ℕ) (n : ℕ) → times v ws ≡ n → times v (with_off o ws) ≡ (if is_number v o then suc n else n)
off_agrees None v ws n h = h
off_agrees (Some w) v ws n h = ap (λ k. if v == w then suc k else k) h

-- every event keeps the agreement
pub agreement_after : (e : Event) (es : Front) (c : Carried) → Agreement es c → Agreement (e ∷ es) (carried_after e c)
agreement_after e es c g = record {
  current = current_agrees e es c g;
  saved = same_after AgreesAt e c.current es c.saved (opened es) g.current g.saved;
  resources = λ i. kept_agrees (resource_made e) i c.current es c.resources (place_before resource_made i es) g.current (g.resources i);
  captures = λ s. kept_agrees (capture_made e) s c.current es c.captures (place_before capture_made s es) g.current (g.captures s);
  triggers = λ i. noted_agrees (trigger_said e) i c.triggers (first_said trigger_said i es) (g.triggers i);
  declarations = λ v. noted_agrees (declaration_said e) v c.declarations (declaration v es) (g.declarations v);
  epochs = λ v. off_agrees (switched_off e) v c.offs (epoch v es) (g.epochs v);
}

pub agreement : (es : Front) → Agreement es (carried es)
agreement [] = record { current = none_agrees; saved = tt; resources = λ i. tt; captures = λ s. tt; triggers = λ i. refl; declarations = λ v. refl; epochs = λ v. refl }
agreement (e ∷ es) = agreement_after e es (carried es) (agreement es)

-- so a read gives what the walk meets
value_met : (o : Option Met) (v : ℕ) (es : Front) (c : Carried) → Agreement es c → entry_value (entry_met v o) (first_noted v c.declarations) (times v c.offs) ≡ met_value o v es
value_met None v es c g = ap default_of (g.declarations v)
value_met (Some m) v es c g = ap₂ (λ n d. if epoch v m.place == n then m.value else left_by_off d) (g.epochs v) (g.declarations v)

pub value_agrees : (es : Front) (c : Carried) (v : ℕ) → Agreement es c → carried_value c v ≡ nearest_binding es v
value_agrees es c v g = ap (λ o. entry_value o (first_noted v c.declarations) (times v c.offs)) (g.current v) ∙ value_met (met_binding es v) v es c g

pub exec_agrees : (es : Front) (c : Carried) → Agreement es c → carried_exec c ≡ exec es
exec_agrees es c g = same_innermost AgreesAt c.saved (opened es) g.saved

pub trigger_agrees : (es : Front) (c : Carried) → Agreement es c → carried_trigger c ≡ trigger es
trigger_agrees es c g =
    ap (λ i. trigger_of i (first_noted i c.triggers)) (exec_agrees es c g) ∙ ap (trigger_of (exec es)) (g.triggers (exec es))
