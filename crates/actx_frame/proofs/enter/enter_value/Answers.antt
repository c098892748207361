use Rattle.actx_frame.proofs.GroupLaws.{then_statement}
use Rattle.actx_frame.proofs.enter.enter_value.Goals as goal

pub enter_statement-requires : goal.enter_statement-requires
enter_statement-requires c = then_statement c.args.form.now c.requires c.in_default.not-New c.in_default.not-SuperCall c.in_default.not-Array c.in_default.not-Object c.in_default.not-Function c.in_default.not-Class c.in_default.not-Init c.in_default.not-Bind c.in_default.not-Yield c.in_default.not-Await c.in_default.not-Parameter c.in_default.not-RestParameter c.in_default.not-Begin
