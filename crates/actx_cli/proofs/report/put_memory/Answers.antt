use Rattle.std.proofs.Common.{◌≡◌, sym, ◌∙◌}
use Rattle.std.specs.Fmt.{decimal}
use Rattle.actx_cli.proofs.report.put_memory.Goals as goal

pub returns : goal.returns
returns g c =
    let same : c.as_bytes-digits.result.now ≡ decimal c.args.steps = c.as_bytes-digits.ensures.value ∙ c.format.ensures.text in
    rw (sym same) c.put_three.ensures
