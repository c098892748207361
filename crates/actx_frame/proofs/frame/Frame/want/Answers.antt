use Rattle.actx_frame.proofs.FrameLaws.{rest_wants}
use Rattle.actx_frame.proofs.frame.Frame.want.Goals as goal

pub returns : goal.returns
returns c = record { law = rest_wants c.args.self.now.want c.args.self.now.list.items _ }
