use Rattle.std.proofs.Common.{◌<◌, ◌≤◌, length, arith, append_assoc, refl}
use Rattle.actx_scope_rules.specs.Nodes.{elem_part, prop_part}
use Rattle.actx_scope_rules.proofs.Lists.{more, finished}
use Rattle.actx_scope_rules.proofs.Names.{slots-left, slots-done, pattern-slots}
use Rattle.actx_scope_rules.proofs.PartEquations.{elem_part-fields, prop_part-Shorthand, prop_part-Pair, target_part-Name, target_part-Object, target_part-Array}
use Rattle.actx_scope_rules.proofs.bound.+bound.Goals as goal

pub add_elem-returns : goal.add_elem-returns
add_elem-returns t c = rw (elem_part-fields) c.add_target.ensures

pub add_elems-loop-elem-init : goal.add_elems-loop-elem-init
add_elems-loop-elem-init t c = refl

pub add_elems-loop-elem-preserved : goal.add_elems-loop-elem-preserved
add_elems-loop-elem-preserved t c = let h : c.loop-elem.elem-index < length c.args.elems.now = omega (arith, c.loop-elem-test.true) in more _ _ _ _ _ _ c.in_ok-add_elem.ensures (slots-left elem_part c.args.is_fixed c.args.elems.now c.loop-elem.elem-index c.elem-item.result h c.elem-item.is) c.loop-elem.invariant

pub add_elems-returns : goal.add_elems-returns
add_elems-returns t c = let h : length c.args.elems.now ≤ c.loop-elem.elem-index = omega (arith, c.loop-elem-test.false) in finished _ _ _ (slots-done elem_part c.args.is_fixed c.args.elems.now c.loop-elem.elem-index h) c.loop-elem.invariant

pub add_props-loop-prop-init : goal.add_props-loop-prop-init
add_props-loop-prop-init t c = refl

pub add_props-loop-prop-preserved : goal.add_props-loop-prop-preserved
add_props-loop-prop-preserved t c = let h : c.loop-prop.prop-index < length c.args.props.now = omega (arith, c.loop-prop-test.true) in more _ _ _ _ _ _ c.in_ok-add_prop.ensures (slots-left prop_part c.args.is_fixed c.args.props.now c.loop-prop.prop-index c.prop-item.result h c.prop-item.is) c.loop-prop.invariant

pub add_props-returns : goal.add_props-returns
add_props-returns t c = let h : length c.args.props.now ≤ c.loop-prop.prop-index = omega (arith, c.loop-prop-test.false) in finished _ _ _ (slots-done prop_part c.args.is_fixed c.args.props.now c.loop-prop.prop-index h) c.loop-prop.invariant

pub add_prop-returns-in-Shorthand : goal.add_prop-returns-in-Shorthand
add_prop-returns-in-Shorthand t c = rw (c.in-Shorthand.is, prop_part-Shorthand) c.add_name.ensures

pub add_prop-returns-in-Pair : goal.add_prop-returns-in-Pair
add_prop-returns-in-Pair t c = rw (c.in-Pair.is, prop_part-Pair) c.add_elem.ensures

pub add_target-returns-in-Name : goal.add_target-returns-in-Name
add_target-returns-in-Name t c = rw (c.in-Name.is, target_part-Name) c.add_name.ensures

pub add_target-returns-in_ok-add_props-in-Object : goal.add_target-returns-in_ok-add_props-in-Object
add_target-returns-in_ok-add_props-in-Object t c = let s = rw c.as_slice.ensures at c.in_ok-add_props-in-Object.ensures in let last = c.add_optional.ensures in rw (c.in-Object.is, target_part-Object, pattern-slots c.args.is_fixed, ← append_assoc c.args.slots.now, ← s) last

pub add_target-returns-in_ok-add_elems-in-Array : goal.add_target-returns-in_ok-add_elems-in-Array
add_target-returns-in_ok-add_elems-in-Array t c = let s = rw c.as_slice-in-Array.ensures at c.in_ok-add_elems-in-Array.ensures in let last = c.add_optional-in-Array.ensures in rw (c.in-Array.is, target_part-Array, pattern-slots c.args.is_fixed, ← append_assoc c.args.slots.now, ← s) last
