use Rattle.actx_want.proofs.ExampleLaws.{leaves}
use Rattle.actx_want.proofs.examples.an_object_pattern_leaves_keys_out.Goals as goal

pub returns : goal.returns
returns c = leaves
