use Rattle.std.proofs.Common.{◌∙◌, ap}
use Rattle.actx_scope.specs.Checks.{slots_of_uses}
use Rattle.actx_scope_rules.specs.Early.{tree_nodes}
use Rattle.actx_scope.proofs.Totals as total
use Rattle.actx_scope.proofs.slots.check.Goals as goal

pub returns-clause-sound : goal.returns-clause-sound
returns-clause-sound c = total.accepted c.in_ok-found.found (tree_nodes c.args.tree.now) c.in_ok-found.ensures c.in-None.is

pub returns-clause-slots : goal.returns-clause-slots
returns-clause-slots c = c.in_ok-places-in-None.ensures ∙ ap slots_of_uses (c.as_slice.ensures ∙ total.all_uses c.in_ok-found.found (tree_nodes c.args.tree.now) c.in_ok-found.ensures)

pub returns-in-Some-clause-refused : goal.returns-in-Some-clause-refused
returns-in-Some-clause-refused c = total.refused c.in_ok-found.found (tree_nodes c.args.tree.now) c.in-Some.early c.in_ok-found.ensures c.in-Some.is
