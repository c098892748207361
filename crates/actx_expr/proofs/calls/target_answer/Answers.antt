use Rattle.std.proofs.Common.{◌≡◌, ◌-◌, Ok, drop, arith}
use Rattle.actx_grammar.specs.Lines.{below}
use Rattle.actx_grammar.specs.Reader.{count}
use Rattle.actx_grammar.proofs.TopLaws.{target_ends}
use Rattle.actx_expr.proofs.CallLaws.{answers_ok}
use Rattle.actx_expr.proofs.calls.target_answer.Goals as goal

pub returns-in-Ok : goal.returns-in-Ok
unfolding count
returns-in-Ok c =
    let q : (below (201 - c.args.depth)).target (drop c.args.from c.args.tokens.now) ≡ Ok ((c.in-Ok.tree, c.in-Ok.field-0-1), c.target_below.new.cursor) = rw (c.levels_in.ensures, c.new-cursor.ensures) at c.in-Ok.ensures.reads in
    answers_ok c.args.tokens.now c.args.from c.saturating_sub.result ((below (201 - c.args.depth)).target (drop c.args.from c.args.tokens.now)) c.in-Ok.tree c.in-Ok.field-0-1 c.target_below.new.cursor q (target_ends (201 - c.args.depth) _ _ _ q) (omega arith)
