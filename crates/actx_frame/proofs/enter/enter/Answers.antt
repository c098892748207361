use Rattle.actx_frame.proofs.GroupLaws.{no_operation}
use Rattle.actx_frame.proofs.EnterLaws.{enter_logical}
use Rattle.actx_frame.proofs.enter.enter.Goals as goal

pub enter_value-requires : goal.enter_value-requires
enter_value-requires c = no_operation c.args.form.now c.in_default.not-Literal c.in_default.not-Name c.in_default.not-ChangeName c.in_default.not-ChangeMember c.in_default.not-Delete c.in_default.not-Unary c.in_default.not-Not c.in_default.not-Void c.in_default.not-Operators c.in_default.not-Logical c.in_default.not-If c.in_default.not-Template c.in_default.not-Suffixes c.in_default.not-SuperMember

pub returns-in_ok-operands-in-Logical : goal.returns-in_ok-operands-in-Logical
returns-in_ok-operands-in-Logical c =
    let first = c.in_ok-first-in-Logical.ensures in
    let operands = c.in_ok-operands-in-Logical.ensures in
    rw (c.under-in-Logical.ensures, c.in-Logical.is) (record { leads = enter_logical c.in-Logical.op c.in-Logical.first c.in_ok-first-in-Logical.first c.in-Logical.operands c.in_ok-operands-in-Logical.operands c.args.p first operands })
