use Rattle.actx_program.proofs.EvenStatements as even
use Rattle.actx_program.proofs.laws.one_block.Goals as goal

pub returns-clause-end : goal.returns-clause-end
returns-clause-end c = even.one_block

pub returns-clause-passed : goal.returns-clause-passed
returns-clause-passed c = even.blocks_unread
