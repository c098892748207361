use Rattle.actx_want.proofs.ExampleLaws.{binds}
use Rattle.actx_want.proofs.examples.a_super_call_binds_this.Goals as goal

pub returns : goal.returns
returns c = binds
