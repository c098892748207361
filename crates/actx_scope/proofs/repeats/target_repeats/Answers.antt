use Rattle.std.proofs.Common.{refl}
use Rattle.actx_scope_rules.proofs.PartEquations.{target_part-Name, target_part-Object, target_part-Array}
use Rattle.actx_scope.proofs.repeats.target_repeats.Goals as goal

pub returns-in-Name : goal.returns-in-Name
returns-in-Name c = rw (c.in-Name.is, target_part-Name) c.has.ensures

pub returns-in-Object : goal.returns-in-Object
returns-in-Object c = rw (c.in-Object.is, target_part-Object) refl

pub returns-in-Array : goal.returns-in-Array
returns-in-Array c = rw (c.in-Array.is, target_part-Array) refl
