use Rattle.actx_core.proofs.Worked as worked
use Rattle.actx_core.proofs.laws.statements_of_files.Goals as goal

pub returns-clause-for_with_let : goal.returns-clause-for_with_let
returns-clause-for_with_let c = worked.for_with_let

pub returns-clause-for_without : goal.returns-clause-for_without
returns-clause-for_without c = worked.for_without

pub returns-clause-for_of : goal.returns-clause-for_of
returns-clause-for_of c = worked.for_of_turns

pub returns-clause-try_with_all : goal.returns-clause-try_with_all
returns-clause-try_with_all c = worked.try_with_all

pub returns-clause-if_else : goal.returns-clause-if_else
returns-clause-if_else c = worked.if_else
