use Rattle.std.proofs.Common.{◌≡◌, ◌∙◌, sym, ap, ◌==◌}
use Rattle.actx_event.specs.Front.{front}
use Rattle.actx_event.specs.Execution.{exec, innermost}
use Rattle.actx_event.specs.Valid.{is_executed}
use Rattle.actx_event.proofs.Standing.{exec_number}
use Rattle.actx_event.proofs.checking.is_executed.Goals as goal

pub returns-in-Init : goal.returns-in-Init
returns-in-Init c =
    let log = c.args.log.now in
    let same : c.innermost.result ≡ exec (front log c.args.n) = c.innermost.ensures ∙ (ap innermost c.requires.standing ∙ exec_number log c.args.n) in
    ap (λ i. c.in-Init.exec == i) same ∙ ap (λ e. is_executed e (front log c.args.n)) (sym c.in-Init.is)
