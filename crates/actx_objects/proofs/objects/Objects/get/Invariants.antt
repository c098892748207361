use Rattle.std.proofs.Common.{◌≡◌, ◌-◌}
use Rattle.actx_objects.specs.Objects.{walk, value_of}
use Rattle.actx_objects.proofs.objects.Objects.get.Given as goal

-- the rest of the walk gives what the whole walk gives
abbrev pub invariant-loop : goal.invariant-loop
invariant-loop l = walk (l.end - l.counter) l.texts.texts l.self l.at l.k ≡ value_of l.fn.texts.texts l.fn.self l.fn.o l.fn.k
