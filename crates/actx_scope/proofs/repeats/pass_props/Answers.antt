use Rattle.std.proofs.Common.{◌<◌, length, arith, refl}
use Rattle.actx_scope_rules.specs.Nodes.{prop_part}
use Rattle.actx_scope_rules.proofs.Lists.{more, finished}
use Rattle.actx_scope_rules.proofs.Names.{names-left, names-done, repeats_more, repeats_done}
use Rattle.actx_scope.proofs.repeats.pass_props.Goals as goal

pub loop-prop-init : goal.loop-prop-init
loop-prop-init c = record { names = refl; keeps = refl }

pub loop-prop-preserved : goal.loop-prop-preserved
loop-prop-preserved c = let h : c.loop-prop.prop-index < length c.args.props.now = omega (arith, c.loop-prop-test.true) in record {
  names = more _ _ _ _ _ _ c.in_ok-pass_prop.ensures (names-left prop_part c.args.props.now c.loop-prop.prop-index c.prop-item.result h c.prop-item.is) c.loop-prop.invariant.names;
  keeps = repeats_more prop_part c.args.props.now c.loop-prop.prop-index c.prop-item.result c.loop-prop.repeats _ _ c.loop-prop.earlier _ h c.prop-item.is (rw c.prop_repeats.ensures at c.either-repeats.ensures) c.in_ok-pass_prop.ensures c.loop-prop.invariant.keeps;
}

pub returns-clause-whether : goal.returns-clause-whether
returns-clause-whether c = repeats_done prop_part c.args.props.now c.loop-prop.prop-index c.loop-prop.repeats _ c.loop-prop.earlier (omega (arith, c.loop-prop-test.false)) c.loop-prop.invariant.keeps

pub returns-clause-behind : goal.returns-clause-behind
returns-clause-behind c = finished _ _ _ (names-done prop_part c.args.props.now c.loop-prop.prop-index (omega (arith, c.loop-prop-test.false))) c.loop-prop.invariant.names
