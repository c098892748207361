use Rattle.std.proofs.Common.{◌≡◌, ◌++◌, ◌||◌, map, drop}
use Rattle.actx_scope_rules.specs.Nodes.{all_names, any_repeats, elem_part}
use Rattle.actx_scope.proofs.repeats.pass_elems.Given as goal

abbrev pub invariant-loop-elem : goal.invariant-loop-elem
invariant-loop-elem l = record {
  names : l.earlier ++ all_names (map elem_part (drop l.elem-index l.elems)) ≡ l.fn.earlier ++ all_names (map elem_part l.elems);
  keeps : (l.repeats || any_repeats (map elem_part (drop l.elem-index l.elems)) l.earlier) ≡ any_repeats (map elem_part l.elems) l.fn.earlier;
}
