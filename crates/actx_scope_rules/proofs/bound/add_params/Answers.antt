use Rattle.std.proofs.Common.{append_assoc}
use Rattle.actx_scope_rules.proofs.Names.{params-slots}
use Rattle.actx_scope_rules.proofs.PartEquations.{params_part-fields}
use Rattle.actx_scope_rules.proofs.bound.add_params.Goals as goal

pub returns : goal.returns
returns c = let s = rw c.as_slice.ensures at c.in_ok-add_elems.ensures in let last = c.add_rest.ensures in rw (params_part-fields, params-slots, ← append_assoc c.args.slots.now, ← s) last
