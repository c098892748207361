use Rattle.std.proofs.Common.{◌≡◌, map, take}
use Rattle.actx_printing.specs.Printing.{argument_of}
use Rattle.actx_printing.proofs.literal.arguments.Given as goal

-- the literals of the arguments before this one
abbrev pub invariant-loop-x : goal.invariant-loop-x
invariant-loop-x l = take l.x-index l.xs ≡ map argument_of l.found.items
