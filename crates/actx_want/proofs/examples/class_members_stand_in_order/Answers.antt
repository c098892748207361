use Rattle.actx_want.proofs.ExampleLaws.{stands}
use Rattle.actx_want.proofs.examples.class_members_stand_in_order.Goals as goal

pub returns : goal.returns
returns c = stands
