use Rattle.std.proofs.Common.{◌≡◌, ◌-◌, Ok, drop, sym, ◌∙◌, true, false, arith}
use Rattle.actx_grammar.specs.Given as given
use Rattle.actx_grammar.specs.Given.{ended}
use Rattle.actx_grammar.specs.Lines.{below}
use Rattle.actx_grammar.specs.Reader.{count}
use Rattle.actx_grammar.proofs.TopLaws.{line_ends}
use Rattle.actx_expr.proofs.CallLaws.{answers_ok, answers_err, ended_yes, ended_no, ended_err}
use Rattle.actx_expr.proofs.calls.line_up_to.Goals as goal

pub returns-then-closes : goal.returns-then-closes
unfolding count
returns-then-closes c =
    let q : (below (201 - c.args.depth)).read c.args.line (drop c.args.from c.args.tokens.now) ≡ Ok ((c.in-Ok.tree, c.in-Ok.field-0-1), c.below.new.cursor) = rw (c.levels_in.ensures, c.new-cursor.ensures) at c.in-Ok.ensures.reads in
    let t : given.closes c.args.end c.below.new.cursor ≡ true = sym c.closes.ensures ∙ c.if-closes.true in
    answers_ok c.args.tokens.now c.args.from c.saturating_sub.result (ended (given.closes c.args.end) ((below (201 - c.args.depth)).read c.args.line (drop c.args.from c.args.tokens.now))) c.in-Ok.tree c.in-Ok.field-0-1 c.below.new.cursor
    (ended_yes (given.closes c.args.end) _ _ _ q t) (line_ends (201 - c.args.depth) c.args.line _ _ _ q) (omega arith)

pub returns-else-closes : goal.returns-else-closes
returns-else-closes c =
    let q : (below (201 - c.args.depth)).read c.args.line (drop c.args.from c.args.tokens.now) ≡ Ok ((c.in-Ok.tree, c.in-Ok.field-0-1), c.below.new.cursor) = rw (c.levels_in.ensures, c.new-cursor.ensures) at c.in-Ok.ensures.reads in
    let t : given.closes c.args.end c.below.new.cursor ≡ false = sym c.closes.ensures ∙ c.if-closes.false in
    ended_no (given.closes c.args.end) _ _ _ q t

pub returns-in-Err : goal.returns-in-Err
returns-in-Err c =
    answers_err c.args.tokens.now (ended (given.closes c.args.end) ((below (201 - c.args.depth)).read c.args.line (drop c.args.from c.args.tokens.now))) c.in-Err.cause c.below.new.cursor c.failure.result
    (ended_err (given.closes c.args.end) ((below (201 - c.args.depth)).read c.args.line (drop c.args.from c.args.tokens.now)) c.in-Err.cause c.below.new.cursor (rw (c.levels_in.ensures, c.new-cursor.ensures) at c.in-Err.ensures.reads))
    c.failure.ensures
