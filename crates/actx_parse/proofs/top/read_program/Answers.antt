use Rattle.std.proofs.Common.{◌≡◌, Ok, Err, subst, rules, arith}
use Rattle.std.proofs.lemmas.Grind.{common_steps}
use Rattle.actx_program.specs.TreeReader.{bodies}
use Rattle.actx_parse.specs.Finds.{Finds}
use Rattle.actx_parse.proofs.Turning.{program_fails, bodies_fail, program_is}
use Rattle.actx_parse.proofs.top.read_program.Goals as goal

pub returns-in_err-items : goal.returns-in_err-items
returns-in_err-items c =
    let t = program_fails c.args.tokens.now c.in_err-items.field-0.0 c.in_err-items.ensures.finds in
    first_of (search (rules, t), grind (arith, common_steps, t))

pub returns-in_err-bodies : goal.returns-in_err-bodies
returns-in_err-bodies c =
    let t = bodies_fail c.args.tokens.now c.in_ok-items.items c.in_err-bodies.field-0.0 c.in_ok-items.ensures.finds (subst (λ xs. Finds (bodies c.args.tokens.now 201 xs) (Err c.in_err-bodies.field-0.0)) c.as_slice.ensures c.in_err-bodies.ensures) in
    first_of (search (rules, t), grind (arith, common_steps, t))

pub returns : goal.returns
returns c = program_is c.args.tokens.now c.in_ok-items.items c.in_ok-bodies.bodies c.in_ok-items.ensures.finds (rw c.as_slice.ensures at c.in_ok-bodies.ensures)
