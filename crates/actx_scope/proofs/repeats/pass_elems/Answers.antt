use Rattle.std.proofs.Common.{◌<◌, length, arith, refl}
use Rattle.actx_scope_rules.specs.Nodes.{elem_part}
use Rattle.actx_scope_rules.proofs.Lists.{more, finished}
use Rattle.actx_scope_rules.proofs.Names.{names-left, names-done, repeats_more, repeats_done}
use Rattle.actx_scope.proofs.repeats.pass_elems.Goals as goal

pub loop-elem-init : goal.loop-elem-init
loop-elem-init c = record { names = refl; keeps = refl }

pub loop-elem-preserved : goal.loop-elem-preserved
loop-elem-preserved c = let h : c.loop-elem.elem-index < length c.args.elems.now = omega (arith, c.loop-elem-test.true) in record {
  names = more _ _ _ _ _ _ c.in_ok-pass_elem.ensures (names-left elem_part c.args.elems.now c.loop-elem.elem-index c.elem-item.result h c.elem-item.is) c.loop-elem.invariant.names;
  keeps = repeats_more elem_part c.args.elems.now c.loop-elem.elem-index c.elem-item.result c.loop-elem.repeats _ _ c.loop-elem.earlier _ h c.elem-item.is (rw c.elem_repeats.ensures at c.either-repeats.ensures) c.in_ok-pass_elem.ensures c.loop-elem.invariant.keeps;
}

pub returns-clause-whether : goal.returns-clause-whether
returns-clause-whether c = repeats_done elem_part c.args.elems.now c.loop-elem.elem-index c.loop-elem.repeats _ c.loop-elem.earlier (omega (arith, c.loop-elem-test.false)) c.loop-elem.invariant.keeps

pub returns-clause-behind : goal.returns-clause-behind
returns-clause-behind c = finished _ _ _ (names-done elem_part c.args.elems.now c.loop-elem.elem-index (omega (arith, c.loop-elem-test.false))) c.loop-elem.invariant.names
