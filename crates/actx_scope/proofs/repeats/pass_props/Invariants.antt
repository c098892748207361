use Rattle.std.proofs.Common.{◌≡◌, ◌++◌, ◌||◌, map, drop}
use Rattle.actx_scope_rules.specs.Nodes.{all_names, any_repeats, prop_part}
use Rattle.actx_scope.proofs.repeats.pass_props.Given as goal

abbrev pub invariant-loop-prop : goal.invariant-loop-prop
invariant-loop-prop l = record {
  names : l.earlier ++ all_names (map prop_part (drop l.prop-index l.props)) ≡ l.fn.earlier ++ all_names (map prop_part l.props);
  keeps : (l.repeats || any_repeats (map prop_part (drop l.prop-index l.props)) l.earlier) ≡ any_repeats (map prop_part l.props) l.fn.earlier;
}
