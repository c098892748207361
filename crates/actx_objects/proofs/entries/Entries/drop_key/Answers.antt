use Rattle.std.proofs.Common.{◌≡◌, ◌≤◌, ◌-◌, ℕ, List, Option, Some, sym, arith}
use Rattle.actx_value.specs.declared.value.Value.{Value}
use Rattle.actx_objects.specs.declared.slot.Slot.{Slot}
use Rattle.actx_objects.specs.Keys.{value_eq}
use Rattle.actx_objects.specs.Pairs.{at_key}
use Rattle.actx_objects.proofs.FoundLemmas.{found_emptied}
use Rattle.actx_objects.proofs.SeenLemmas.{seen_emptied, seen_missed, one_stands}
use Rattle.actx_objects.proofs.entries.Entries.drop_key.Goals as goal

pub overflow_sub-self : goal.overflow_sub-self
overflow_sub-self c =
    let places : Value → Option ℕ = λ key. at_key value_eq key c.self.inside.places in
    let slots : List (Option Slot) = c.self.inside.slots.items in
    let h : places c.args.key ≡ Some c.in-Some.place = sym c.in-Some.ensures in
    let own = c.self.invariant.held c.args.key c.in-Some.place h in
    one_stands places slots c.self.inside.count c.self.invariant c.args.key c.in-Some.place h own.0 own.1

pub invariant_of-self : goal.invariant_of-self
invariant_of-self c =
    let places : Value → Option ℕ = λ key. at_key value_eq key c.self.inside.places in
    let fewer : Value → Option ℕ = λ key. at_key value_eq key c.remove.new.self in
    let slots : List (Option Slot) = c.self.inside.slots.items in
    let h : places c.args.key ≡ Some c.in-Some.place = sym c.in-Some.ensures in
    let own = c.self.invariant.held c.args.key c.in-Some.place h in
    let one : 1 ≤ c.self.inside.count = one_stands places slots c.self.inside.count c.self.invariant c.args.key c.in-Some.place h own.0 own.1 in
    found_emptied places fewer slots c.self.inside.count c.self.invariant c.args.key c.in-Some.place h own.0 own.1 c.remove.ensures (c.self.inside.count - 1) (omega arith)

pub returns-in-Some : goal.returns-in-Some
returns-in-Some c =
    let places : Value → Option ℕ = λ key. at_key value_eq key c.self.inside.places in
    let slots : List (Option Slot) = c.self.inside.slots.items in
    let h : places c.args.key ≡ Some c.in-Some.place = sym c.in-Some.ensures in
    let own = c.self.invariant.held c.args.key c.in-Some.place h in
    rw (← c.self.view_is) (seen_emptied places slots c.self.inside.count c.self.invariant c.args.key c.in-Some.place h own.0 own.1)

pub returns-in-None : goal.returns-in-None
returns-in-None c =
    let places : Value → Option ℕ = λ key. at_key value_eq key c.self.inside.places in
    rw (← c.self.view_is) (seen_missed places c.self.inside.slots.items c.self.inside.count c.self.invariant c.args.key (sym c.in-None.ensures))
