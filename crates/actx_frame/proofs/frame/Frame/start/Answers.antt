use Rattle.std.proofs.Common.{sym, ap, ◌∙◌}
use Rattle.std.specs.List.{slice_get}
use Rattle.std.specs.Option.{option_copied}
use Rattle.actx_frame_items.specs.Stack.{kept}
use Rattle.actx_frame.proofs.FrameLaws.{no_body}
use Rattle.actx_frame.proofs.frame.Frame.start.Goals as goal

pub returns-in-None : goal.returns-in-None
returns-in-None c =
    let none = sym c.body.ensures ∙ ap option_copied c.in-None.is in
    record { law = no_body (slice_get c.args.code.now.bodies c.args.body.0) c.new-in-None.result.items (kept c.new.result.items) c.args.scope none }
