use Rattle.actx_want.proofs.LoopLaws.{while_law, do_law, for_law, let_law, of_law}
use Rattle.actx_want.proofs.laws.loops_ask_tick_first.Goals as goal

pub returns-clause-while_loop : goal.returns-clause-while_loop
returns-clause-while_loop c = while_law

pub returns-clause-do_loop : goal.returns-clause-do_loop
returns-clause-do_loop c = do_law

pub returns-clause-for_loop : goal.returns-clause-for_loop
returns-clause-for_loop c = for_law

pub returns-clause-let_loop : goal.returns-clause-let_loop
returns-clause-let_loop c = let_law

pub returns-clause-of_loop : goal.returns-clause-of_loop
returns-clause-of_loop c = of_law
