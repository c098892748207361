use Rattle.actx_request.proofs.groups.by_objects.Goals as goal

pub returns-in_ok-arguments_from-in-ArgsFrom : goal.returns-in_ok-arguments_from-in-ArgsFrom
returns-in_ok-arguments_from-in-ArgsFrom c cells = rw c.in-ArgsFrom.is (c.in_ok-arguments_from-in-ArgsFrom.ensures c.args.texts.now cells)
