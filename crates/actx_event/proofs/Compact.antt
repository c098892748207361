-- A state that keeps less stands for the fold.
use Rattle.std.proofs.Common.{◌≡◌, ℕ, suc, ◌==◌, Bool, true, false, List, [], ◌∷◌, Option, Some, None, if◌then◌else◌, refl, ap, ap₂, ◌∙◌, eqb-true}
use Rattle.std.proofs.lemmas.Bool.Decides.{nat_tests}
use Rattle.std.proofs.Common.{arith}
use Rattle.std.specs.Prelude.{unwrap_or}
use Rattle.std.specs.Option.{option_or}
use Rattle.actx_event.specs.declared.event.Event.{Event}
use Rattle.actx_event.specs.declared.event.Event.TheVariants.{Before, Enter}
use Rattle.actx_event.specs.Event.{Binding, resource_made, capture_made, closed_bracket, binding_made, switched_off, trigger_said, declaration_said}
use Rattle.actx_event.specs.Noted.{Noted, noted_under, first_noted, with_note}
use Rattle.actx_event.specs.Execution.{trigger_of}
use Rattle.actx_event.specs.Mappings.{Mapping, first_entry, times, Carried, mapping_named, with_binding, kept_under, with_off, carried_after, entry_value, carried_value, carried_exec, carried_trigger}
use Rattle.actx_event.specs.Agreement.{BothOrNeither}
use Rattle.actx_event.specs.Standing.{SameEntries, without, newest_only, StandsFor}
use Rattle.actx_event.proofs.Matching.{both_or, both_unwrap, same_after, same_opener, same_innermost}

root_same : (t : Bool) (a b : Option Mapping) → BothOrNeither SameEntries a b → BothOrNeither SameEntries (if t then Some [] else a) (if t then Some [] else b)
root_same true a b h = λ v. refl
root_same false a b h = h

named_same : (e : Event) (d c : Carried) → StandsFor d c → BothOrNeither SameEntries (mapping_named e d) (mapping_named e c)
named_same (Before id) d c h = h.resources id.0
named_same (Enter snap) d c h = root_same (snap.0 == 0) (first_noted snap.0 d.captures) (first_noted snap.0 c.captures) (h.captures snap.0)
named_same e d c h = same_opener SameEntries (closed_bracket e) d.saved c.saved h.saved

binding_same : (b : Option Binding) (m n : Mapping) (vs ws : List ℕ) → ((v : ℕ) → times v vs ≡ times v ws) → SameEntries m n → SameEntries (with_binding b vs m) (with_binding b ws n)
binding_same None m n vs ws epochs h v = h v
binding_same (Some b) m n vs ws epochs h v =
    ap₂ (λ k o. if v == b.variable then Some (record { variable = b.variable; value = b.value; epoch = k }) else o) (epochs b.variable) (h v)

kept_same : (o : Option ℕ) (i : ℕ) (m n : Mapping) (ms ns : List (Noted Mapping)) → SameEntries m n → BothOrNeither SameEntries (first_noted i ms) (first_noted i ns) → BothOrNeither SameEntries (first_noted i (with_note (kept_under o m) ms)) (first_noted i (with_note (kept_under o n) ns))
kept_same None i m n ms ns a h = h
kept_same (Some j) i m n ms ns a h = both_or SameEntries (first_noted i ms) _ (first_noted i ns) _ h (kept (i == j))
  where
    kept : (t : Bool) → BothOrNeither SameEntries (if t then Some m else None) (if t then Some n else None)
    kept true = a
    kept false = tt

noted_same : {A : Type 0} (o : Option (Noted A)) (i : ℕ) (ms ns : List (Noted A)) → first_noted i ms ≡ first_noted i ns → first_noted i (with_note o ms) ≡ first_noted i (with_note o ns)
noted_same None i ms ns h = h
noted_same (Some n) i ms ns h = ap (λ a. option_or a (noted_under i (Some n))) h

off_same : (o : Option ℕ) (v : ℕ) (vs ws : List ℕ) → times v vs ≡ times v ws → times v (with_off o vs) ≡ times v (with_off o ws)
off_same None v vs ws h = h
off_same (Some w) v vs ws h = ap (λ n. if v == w then suc n else n) h

pub stands_after : (e : Event) (d c : Carried) → StandsFor d c → StandsFor (carried_after e d) (carried_after e c)
stands_after e d c h = record {
  current = binding_same (binding_made e) (unwrap_or (mapping_named e d) d.current) (unwrap_or (mapping_named e c) c.current) d.offs c.offs h.epochs (both_unwrap SameEntries (mapping_named e d) (mapping_named e c) d.current c.current (named_same e d c h) h.current);
  saved = same_after SameEntries e d.current c.current d.saved c.saved h.current h.saved;
  resources = λ i. kept_same (resource_made e) i d.current c.current d.resources c.resources h.current (h.resources i);
  captures = λ s. kept_same (capture_made e) s d.current c.current d.captures c.captures h.current (h.captures s);
  triggers = λ i. noted_same (trigger_said e) i d.triggers c.triggers (h.triggers i);
  declarations = λ v. noted_same (declaration_said e) v d.declarations c.declarations (h.declarations v);
  epochs = λ v. off_same (switched_off e) v d.offs c.offs (h.epochs v);
}

pub stands_value : (d c : Carried) (v : ℕ) → StandsFor d c → carried_value d v ≡ carried_value c v
stands_value d c v h =
    ap (λ o. entry_value o (first_noted v d.declarations) (times v d.offs)) (h.current v) ∙ ap₂ (λ s n. entry_value (first_entry v c.current) s n) (h.declarations v) (h.epochs v)

pub stands_exec : (d c : Carried) → StandsFor d c → carried_exec d ≡ carried_exec c
stands_exec d c h = same_innermost SameEntries d.saved c.saved h.saved

pub stands_trigger : (d c : Carried) → StandsFor d c → carried_trigger d ≡ carried_trigger c
stands_trigger d c h =
    ap (λ i. trigger_of i (first_noted i d.triggers)) (stands_exec d c h) ∙ ap (trigger_of (carried_exec c)) (h.triggers (carried_exec c))

-- entries of another variable don't matter
without_other : (v w : ℕ) (m : Mapping) → v == w ≡ false → first_entry v (without w m) ≡ first_entry v m
without_other v w [] h = refl
without_other v w (e ∷ es) h = go (w == e.variable) refl (v == e.variable) refl (without_other v w es h)
  where
    go : (t : Bool) → w == e.variable ≡ t → (u : Bool) → v == e.variable ≡ u → first_entry v (without w es) ≡ first_entry v es → first_entry v (if t then without w es else (e ∷ without w es)) ≡ (if u then Some e else first_entry v es)
    go true is true at k = let same : w ≡ e.variable = eqb-true w e.variable is in let too : v ≡ e.variable = eqb-true v e.variable at in absurd (grind (arith, nat_tests))
    go true is false at k = k
    go false is u at k = ap (λ (b : Bool). if b then Some e else first_entry v (without w es)) at ∙ ap (λ o. if u then Some e else o) k

pub newest_same : (m : Mapping) → SameEntries (newest_only m) m
newest_same [] v = refl
newest_same (e ∷ es) v = go (v == e.variable) refl (newest_same es v)
  where
    go : (t : Bool) → v == e.variable ≡ t → first_entry v (newest_only es) ≡ first_entry v es → (if t then Some e else first_entry v (without e.variable (newest_only es))) ≡ (if t then Some e else first_entry v es)
    go true is k = refl
    go false is k = without_other v e.variable (newest_only es) is ∙ k
