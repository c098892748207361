use Rattle.std.proofs.Common.{◌≡◌, ◌-◌, Ok, drop, arith}
use Rattle.actx_grammar.specs.Lines.{below}
use Rattle.actx_grammar.specs.Patterns.{params}
use Rattle.actx_grammar.specs.Reader.{count}
use Rattle.actx_grammar.proofs.TopLaws.{params_end}
use Rattle.actx_expr.proofs.CallLaws.{answers_ok}
use Rattle.actx_expr.proofs.calls.params_answer.Goals as goal

pub returns-in-Ok : goal.returns-in-Ok
unfolding count
returns-in-Ok c =
    let q : params (below (201 - c.args.depth)) (drop c.args.from c.args.tokens.now) ≡ Ok ((c.in-Ok.tree, c.in-Ok.field-0-1), c.read_params.new.cursor) = rw (c.levels_in.ensures, c.new-cursor.ensures) at c.in-Ok.ensures.reads in
    answers_ok c.args.tokens.now c.args.from c.saturating_sub.result (params (below (201 - c.args.depth)) (drop c.args.from c.args.tokens.now)) c.in-Ok.tree c.in-Ok.field-0-1 c.read_params.new.cursor q (params_end (201 - c.args.depth) _ _ _ q) (omega arith)
