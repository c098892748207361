use Rattle.std.proofs.Common.{false}
use Rattle.actx_scope_rules.specs.Nodes as nodes
use Rattle.actx_scope_rules.proofs.Names.{slot_names-of}
use Rattle.actx_scope.proofs.repeats.pass_elem.Goals as goal

pub returns : goal.returns
returns c = let e = rw (c.as_slice.ensures, c.in_ok-add_elem.ensures, c.new-slots.ensures) at c.add_all.ensures in rw (← slot_names-of false (nodes.elem_part c.args.elem.now).names) e
