use Rattle.std.proofs.Common.{◌≡◌, ◌++◌, drop}
use Rattle.actx_objects.specs.Properties.{shown_keys}
use Rattle.actx_objects.proofs.props.Props.shown_keys.Given as goal

abbrev pub invariant-loop-i : goal.invariant-loop-i
invariant-loop-i l = l.keys.items ++ shown_keys (drop l.i l.self) ≡ shown_keys l.self
