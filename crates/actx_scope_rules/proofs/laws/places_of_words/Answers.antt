use Rattle.actx_scope_rules.proofs.Worked as worked
use Rattle.actx_scope_rules.proofs.laws.places_of_words.Goals as goal

pub returns-clause-lone_break : goal.returns-clause-lone_break
returns-clause-lone_break c = worked.lone_break

pub returns-clause-in_a_loop : goal.returns-clause-in_a_loop
returns-clause-in_a_loop c = worked.in_a_loop

pub returns-clause-lone_return : goal.returns-clause-lone_return
returns-clause-lone_return c = worked.lone_return

pub returns-clause-lone_await : goal.returns-clause-lone_await
returns-clause-lone_await c = worked.lone_await
