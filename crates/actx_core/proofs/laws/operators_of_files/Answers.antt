use Rattle.actx_core.proofs.Worked as worked
use Rattle.actx_core.proofs.laws.operators_of_files.Goals as goal

pub returns-clause-member : goal.returns-clause-member
returns-clause-member c = worked.member_changed

pub returns-clause-chain : goal.returns-clause-chain
returns-clause-chain c = worked.chain_of_suffixes

pub returns-clause-operators : goal.returns-clause-operators
returns-clause-operators c = worked.operators_of_kinds
