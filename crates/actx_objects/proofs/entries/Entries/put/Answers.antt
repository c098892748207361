use Rattle.std.proofs.Common.{◌≡◌, ◌≤◌, ◌<◌, ◌+◌, ℕ, cond, List, Option, Some, length, refl, sym, ap, ◌∙◌, arith}
use Rattle.actx_value.specs.declared.value.Value.{Value}
use Rattle.actx_objects.specs.declared.slot.Slot.{Slot}
use Rattle.actx_objects.specs.Keys.{value_eq}
use Rattle.actx_objects.specs.Pairs.{at_key}
use Rattle.actx_objects.specs.Slots.{standing_from}
use Rattle.actx_objects.proofs.FoundLemmas.{found_written, found_pushed}
use Rattle.actx_objects.proofs.SeenLemmas.{standing_fewer, seen_written, seen_pushed}
use Rattle.actx_objects.proofs.entries.Entries.put.Goals as goal

pub invariant_of-self : goal.invariant_of-self
invariant_of-self c =
    let places : Value → Option ℕ = λ key. at_key value_eq key c.self.inside.places in
    let slots : List (Option Slot) = c.self.inside.slots.items in
    let t : Slot = record { key = c.args.key; value = c.args.value } in
    let h : places c.args.key ≡ Some c.in-Some.place = sym c.in-Some.ensures in
    let own = c.self.invariant.held c.args.key c.in-Some.place h in
    found_written places places slots c.self.inside.count c.self.invariant c.args.key c.in-Some.place h own.0 own.1 t refl

pub returns-in-Some-clause-ok : goal.returns-in-Some-clause-ok
returns-in-Some-clause-ok c =
    let places : Value → Option ℕ = λ key. at_key value_eq key c.self.inside.places in
    let slots : List (Option Slot) = c.self.inside.slots.items in
    let h : places c.args.key ≡ Some c.in-Some.place = sym c.in-Some.ensures in
    let own = c.self.invariant.held c.args.key c.in-Some.place h in
    rw (← c.self.view_is) (seen_written places slots c.self.inside.count c.self.invariant c.args.key c.in-Some.place h own.0 own.1 c.args.value)

pub overflow_add-self : goal.overflow_add-self
overflow_add-self c =
    let slots : List (Option Slot) = c.self.inside.slots.items in
    let fewer : length (standing_from 0 slots) ≤ length slots = standing_fewer 0 slots in
    let few : length slots < 2147483648 = rw (← c.self.view_is) at c.requires in
    omega (arith, fewer, few, c.self.invariant.counted)

pub invariant_of-self-in-None : goal.invariant_of-self-in-None
invariant_of-self-in-None c =
    let places : Value → Option ℕ = λ key. at_key value_eq key c.self.inside.places in
    let more : Value → Option ℕ = λ key. at_key value_eq key c.insert.new.self in
    let slots : List (Option Slot) = c.self.inside.slots.items in
    let t : Slot = record { key = c.args.key; value = c.args.value } in
    let here : c.len-place.result ≡ length slots = omega (arith, ap length c.in_ok-reserve-in-None.ensures.items) in
    let is : (q : Value) → more q ≡ cond (value_eq c.args.key q) (Some (length slots)) (places q) = λ q. c.in_ok-insert-in-None.ensures.ok q ∙ ap (λ n. cond (value_eq c.args.key q) (Some n) (places q)) here in
    rw (c.push_reserved.ensures.items, c.in_ok-reserve-in-None.ensures.items) (found_pushed places more slots c.self.inside.count c.self.invariant c.args.key t refl (sym c.in-None.ensures) is (c.self.inside.count + 1) refl)

pub returns-in_ok-insert-in-None-clause-ok : goal.returns-in_ok-insert-in-None-clause-ok
returns-in_ok-insert-in-None-clause-ok c =
    let places : Value → Option ℕ = λ key. at_key value_eq key c.self.inside.places in
    let slots : List (Option Slot) = c.self.inside.slots.items in
    rw (← c.self.view_is, c.push_reserved.ensures.items, c.in_ok-reserve-in-None.ensures.items) (seen_pushed places slots c.self.inside.count c.self.invariant c.args.key c.args.value (sym c.in-None.ensures))
