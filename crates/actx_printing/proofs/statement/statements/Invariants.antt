use Rattle.std.proofs.Common.{◌≡◌, map, take}
use Rattle.actx_printing.specs.Printing.{literals, statement_of}
use Rattle.actx_printing.proofs.statement.statements.Given as goal

-- the literals of the statements before this one
abbrev pub invariant-loop-x : goal.invariant-loop-x
invariant-loop-x l = take l.x-index l.xs ≡ map statement_of (literals l.all)
