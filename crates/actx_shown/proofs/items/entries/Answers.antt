use Rattle.std.proofs.Common.{rules, ◌≡◌, List, ◌∷◌, [], ◌++◌, map, length, ap, sym, ◌∙◌, Some, ℕ, ◌+◌, ◌<◌, arith}
use Rattle.actx_value.specs.declared.value.Value.{Value}
use Rattle.actx_objects.specs.declared.entries.Placed.{Placed}
use Rattle.actx_objects.specs.Entries.{triple_of}
use Rattle.actx_objects.specs.Objects.{entries_of}
use Rattle.actx_shown.specs.Items.{entry}
use Rattle.actx_shown.proofs.WalkLemmas.{later, first_of, later_all, first_below, step, ended, entry_is, all_put, one_put}
use Rattle.actx_shown.proofs.items.entries.Goals as goal

pub loop-init : goal.loop-init
loop-init c =
    let es : List (Value × Placed) = (entries_of c.args.objects.now c.args.o).standing in
    let e : later 0 es ≡ es = later_all 0 es c.entries_stand_in_order.ensures.ascending in
    let m : length (later 0 es) ≡ length es = ap length e in
    (ap (λ z. z ++ map (entry c.args.has_values) (later 0 es)) c.new-items.ensures.items ∙ ap (map (entry c.args.has_values)) e, omega arith)

pub overflow_add-place : goal.overflow_add-place
overflow_add-place c =
    let es = entries_of c.args.objects.now c.args.o in
    let h : first_of c.loop.place es.standing ≡ Some (c.in-Some.at, c.in-Some.key, c.in-Some.value) =
    sym (entry_is c.args.objects.now c.args.o c.loop.place) ∙ sym (c.in-Some.ensures {u = tt}) in
    let b : c.in-Some.at < es.places = first_below c.loop.place es.places es.standing (c.in-Some.at, c.in-Some.key, c.in-Some.value) c.entries_stand_in_order.ensures.below h in
    let few : es.places < 2147483648 = c.entries_stand_in_order.ensures.few in
    search rules

pub returns-in-None : goal.returns-in-None
returns-in-None c =
    let es : List (Value × Placed) = (entries_of c.args.objects.now c.args.o).standing in
    let k : later c.loop.place es ≡ [] = ended c.loop.place es (sym (entry_is c.args.objects.now c.args.o c.loop.place) ∙ sym (c.in-None.ensures {u = tt})) in
    all_put c.args.has_values c.loop.items.items (later c.loop.place es) _ k c.loop.invariant.0

pub loop-preserved : goal.loop-preserved
loop-preserved c =
    let es : List (Value × Placed) = (entries_of c.args.objects.now c.args.o).standing in
    let t : ℕ × Value × Value = (c.in-Some.at, c.in-Some.key, c.in-Some.value) in
    let h : first_of c.loop.place es ≡ Some t = sym (entry_is c.args.objects.now c.args.o c.loop.place) ∙ sym (c.in-Some.ensures {u = tt}) in
    let s : (e : Value × Placed) × (triple_of e ≡ t) × (later c.loop.place es ≡ e ∷ later (t.0 + 1) es) =
    step 0 c.loop.place es t c.entries_stand_in_order.ensures.ascending h in
    let n : length (later c.loop.place es) ≡ length (s.0 ∷ later (t.0 + 1) es) = ap length s.2 in (
      one_put c.args.has_values c.loop.items.items _ (later (t.0 + 1) es) (later c.loop.place es) _ s.0 t s.1 s.2 (c.in_ok-push_entry-in-Some.ensures {u = tt}) c.loop.invariant.0,
      omega arith,
    )
