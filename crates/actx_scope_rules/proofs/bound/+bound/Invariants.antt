use Rattle.std.proofs.Common.{◌≡◌, ◌++◌, map, drop}
use Rattle.actx_scope_rules.specs.Scopes.{slots_of}
use Rattle.actx_scope_rules.specs.Nodes.{all_names, elem_part, prop_part}
use Rattle.actx_scope_rules.proofs.bound.+bound.Given as goal

abbrev pub invariant-add_elems-loop-elem : goal.invariant-add_elems-loop-elem
invariant-add_elems-loop-elem l = l.slots ++ slots_of l.is_fixed (all_names (map elem_part (drop l.elem-index l.elems))) ≡ l.fn.slots ++ slots_of l.is_fixed (all_names (map elem_part l.elems))

abbrev pub invariant-add_props-loop-prop : goal.invariant-add_props-loop-prop
invariant-add_props-loop-prop l = l.slots ++ slots_of l.is_fixed (all_names (map prop_part (drop l.prop-index l.props))) ≡ l.fn.slots ++ slots_of l.is_fixed (all_names (map prop_part l.props))
