use Rattle.actx_frame.proofs.FrameLaws.{rest_wants, goes_on, stays}
use Rattle.actx_frame.proofs.frame.Frame.next.Goals as goal

pub returns-in_ok-wanted-in-Ask-clause-law : goal.returns-in_ok-wanted-in-Ask-clause-law
returns-in_ok-wanted-in-Ask-clause-law c =
    let was = c.in_ok-wanted-in-Ask.was in
    let settled = rw was at c.run.ensures.leads in
    λ more. goes_on c.in_ok-wanted-in-Ask.wanted c.in-Ask.field-0 c.args.self.now.list.items c.args.self.now.stack.items c.run.new.stack.items c.args.a c.completion.result c.args.self.now.want c.in-Ask.is c.completion.ensures settled more

pub returns-in_ok-wanted-in-Ask-clause-wanted : goal.returns-in_ok-wanted-in-Ask-clause-wanted
returns-in_ok-wanted-in-Ask-clause-wanted c = rest_wants c.in_ok-wanted-in-Ask.wanted.want c.in_ok-wanted-in-Ask.wanted.list.items _

pub returns-in_default : goal.returns-in_default
returns-in_default c = record {
  law = λ more. stays c.args.self.now.want c.args.self.now.list.items _ c.args.a more c.in_default.not-Ask;
  wanted = rest_wants c.args.self.now.want c.args.self.now.list.items _;
}
