use Rattle.actx_event.proofs.Standing.{exec_number}
use Rattle.actx_event.proofs.open_brackets.exec.Goals as goal

pub returns : goal.returns
returns c = let same = exec_number c.args.log.now c.args.place in cc (c.innermost.ensures, c.deref.ensures.value, c.in_ok-brackets.ensures)
