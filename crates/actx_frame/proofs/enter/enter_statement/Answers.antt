use Rattle.actx_frame.proofs.GroupLaws.{no_other}
use Rattle.actx_frame.proofs.enter.enter_statement.Goals as goal

pub unreachable-requires : goal.unreachable-requires
unreachable-requires c = no_other c.args.form.now c.requires c.in_default.not-Sequence c.in_default.not-Block c.in_default.not-While c.in_default.not-DoWhile c.in_default.not-For c.in_default.not-ForLet c.in_default.not-ForOf c.in_default.not-Break c.in_default.not-Continue c.in_default.not-Return c.in_default.not-Throw c.in_default.not-Try
