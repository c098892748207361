use Rattle.std.proofs.Common.{refl}
use Rattle.actx_shown.specs.Forms.{is_object_function}
use Rattle.actx_shown.proofs.fronts.is_object_function.Goals as goal

pub returns : goal.returns
unfolding is_object_function
returns c = refl
