use Rattle.actx_scope_rules.specs.Early.{tree_nodes}
use Rattle.actx_scope_rules.proofs.Orders.{ordered_from}
use Rattle.actx_scope_rules.proofs.laws.errors_in_order.Goals as goal

pub returns : goal.returns
returns c = λ tree. ordered_from 0 (tree_nodes tree)
