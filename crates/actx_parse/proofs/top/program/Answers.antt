use Rattle.actx_parse.proofs.Answering.{settled_spelled, settled_small, settled_given, settled_no_tree, settled_too_nested, settled_long}
use Rattle.actx_parse.proofs.top.program.Goals as goal

pub returns-clause-spelled : goal.returns-clause-spelled
returns-clause-spelled c = rw c.settled.ensures (settled_spelled c.args.tokens.now c.read_program-answer.result c.read_program-answer.ensures)

pub returns-clause-small : goal.returns-clause-small
returns-clause-small c = rw c.settled.ensures (settled_small c.args.tokens.now c.read_program-answer.result c.read_program-answer.ensures)

pub returns-clause-given : goal.returns-clause-given
returns-clause-given c = rw c.settled.ensures (settled_given c.args.tokens.now c.read_program-answer.result c.read_program-answer.ensures)

pub returns-clause-no_tree : goal.returns-clause-no_tree
returns-clause-no_tree c = rw c.settled.ensures (settled_no_tree c.args.tokens.now c.read_program-answer.result c.read_program-answer.ensures)

pub returns-clause-too_nested : goal.returns-clause-too_nested
returns-clause-too_nested c = rw c.settled.ensures (settled_too_nested c.args.tokens.now c.read_program-answer.result c.read_program-answer.ensures)

pub returns-clause-long : goal.returns-clause-long
returns-clause-long c = rw c.settled.ensures (settled_long c.args.tokens.now c.read_program-answer.result c.read_program-answer.ensures)
