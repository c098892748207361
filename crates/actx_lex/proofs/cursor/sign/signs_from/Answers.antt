use Rattle.std.proofs.Common.{sym, ap, arith}
use Rattle.actx_lex.specs.Readers.{signs_from}
use Rattle.actx_lex.proofs.Signs.{no_signs}
use Rattle.actx_lex.proofs.cursor.sign.signs_from.Goals as goal

pub returns-in-33 : goal.returns-in-33
unfolding signs_from
returns-in-33 c = ap signs_from (sym c.in-33.is)

pub returns-in-37 : goal.returns-in-37
unfolding signs_from
returns-in-37 c = ap signs_from (sym c.in-37.is)

pub returns-in-38 : goal.returns-in-38
unfolding signs_from
returns-in-38 c = ap signs_from (sym c.in-38.is)

pub returns-in-40 : goal.returns-in-40
unfolding signs_from
returns-in-40 c = ap signs_from (sym c.in-40.is)

pub returns-in-41 : goal.returns-in-41
unfolding signs_from
returns-in-41 c = ap signs_from (sym c.in-41.is)

pub returns-in-42 : goal.returns-in-42
unfolding signs_from
returns-in-42 c = ap signs_from (sym c.in-42.is)

pub returns-in-43 : goal.returns-in-43
unfolding signs_from
returns-in-43 c = ap signs_from (sym c.in-43.is)

pub returns-in-44 : goal.returns-in-44
unfolding signs_from
returns-in-44 c = ap signs_from (sym c.in-44.is)

pub returns-in-45 : goal.returns-in-45
unfolding signs_from
returns-in-45 c = ap signs_from (sym c.in-45.is)

pub returns-in-46 : goal.returns-in-46
unfolding signs_from
returns-in-46 c = ap signs_from (sym c.in-46.is)

pub returns-in-47 : goal.returns-in-47
unfolding signs_from
returns-in-47 c = ap signs_from (sym c.in-47.is)

pub returns-in-58 : goal.returns-in-58
unfolding signs_from
returns-in-58 c = ap signs_from (sym c.in-58.is)

pub returns-in-59 : goal.returns-in-59
unfolding signs_from
returns-in-59 c = ap signs_from (sym c.in-59.is)

pub returns-in-60 : goal.returns-in-60
unfolding signs_from
returns-in-60 c = ap signs_from (sym c.in-60.is)

pub returns-in-61 : goal.returns-in-61
unfolding signs_from
returns-in-61 c = ap signs_from (sym c.in-61.is)

pub returns-in-62 : goal.returns-in-62
unfolding signs_from
returns-in-62 c = ap signs_from (sym c.in-62.is)

pub returns-in-63 : goal.returns-in-63
unfolding signs_from
returns-in-63 c = ap signs_from (sym c.in-63.is)

pub returns-in-91 : goal.returns-in-91
unfolding signs_from
returns-in-91 c = ap signs_from (sym c.in-91.is)

pub returns-in-93 : goal.returns-in-93
unfolding signs_from
returns-in-93 c = ap signs_from (sym c.in-93.is)

pub returns-in-123 : goal.returns-in-123
unfolding signs_from
returns-in-123 c = ap signs_from (sym c.in-123.is)

pub returns-in-124 : goal.returns-in-124
unfolding signs_from
returns-in-124 c = ap signs_from (sym c.in-124.is)

pub returns-in-125 : goal.returns-in-125
unfolding signs_from
returns-in-125 c = ap signs_from (sym c.in-125.is)

pub returns-in_default : goal.returns-in_default
returns-in_default c = sym (no_signs c.args.unit (omega arith) (omega arith) (omega arith) (omega arith) (omega arith) (omega arith) (omega arith) (omega arith) (omega arith) (omega arith) (omega arith) (omega arith) (omega arith) (omega arith) (omega arith) (omega arith) (omega arith) (omega arith) (omega arith) (omega arith) (omega arith) (omega arith))
