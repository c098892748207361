use Rattle.std.proofs.Common.{◌≡◌, ◌∙◌, ◌≤◌, ◌-◌, Ok, Err, length, drop, rules, arith}
use Rattle.std.proofs.lemmas.Grind.{common_steps}
use Rattle.actx_grammar.specs.declared.error.Cause.{Cause}
use Rattle.actx_program.specs.TreeReader.{read_body}
use Rattle.actx_program.proofs.SoundTrees.{body_levels}
use Rattle.actx_parse.specs.Bodies.{items_to}
use Rattle.actx_parse.specs.Finds.{items_of}
use Rattle.actx_parse.proofs.Turning.{body_is, body_sinks, items_ok, items_err, finds_by}
use Rattle.actx_parse.proofs.files.body_items.Goals as goal

pub returns-then-nested-gt-MAX_LEVELS-clause-finds : goal.returns-then-nested-gt-MAX_LEVELS-clause-finds
returns-then-nested-gt-MAX_LEVELS-clause-finds c = body_sinks c.args.tokens.now c.args.nested c.if-nested-gt-MAX_LEVELS.true

pub returns-in-Ok-clause-finds : goal.returns-in-Ok-clause-finds
returns-in-Ok-clause-finds c =
    let q : items_to (201 - c.args.nested.depth) c.args.nested.range.to (drop (length c.args.tokens.now - c.args.nested.range.from) c.args.tokens.now) ≡ Ok ((c.in-Ok.items, c.in-Ok.field-0-1), c.whole_body.new.cursor) = first_of (search rules, grind (arith, common_steps)) in
    items_ok _ (c.in-Ok.items, c.in-Ok.field-0-1) _ (body_is c.args.tokens.now c.args.nested (omega arith) ∙ q)

pub returns-in-Ok-clause-low : goal.returns-in-Ok-clause-low
returns-in-Ok-clause-low c =
    let q : items_to (201 - c.args.nested.depth) c.args.nested.range.to (drop (length c.args.tokens.now - c.args.nested.range.from) c.args.tokens.now) ≡ Ok ((c.in-Ok.items, c.in-Ok.field-0-1), c.whole_body.new.cursor) = first_of (search rules, grind (arith, common_steps)) in
    let l = body_levels c.args.tokens.now 201 c.args.nested (c.in-Ok.items, c.in-Ok.field-0-1) _ (body_is c.args.tokens.now c.args.nested (omega arith) ∙ q) in
    omega (arith, l.0, l.1)

pub returns-in-Err-clause-finds : goal.returns-in-Err-clause-finds
returns-in-Err-clause-finds c =
    finds_by _ c.in-Err.cause c.stopped.result c.stopped.ensures (λ other.
    items_err _ c.in-Err.cause (body_is c.args.tokens.now c.args.nested (omega arith) ∙ (let q : items_to (201 - c.args.nested.depth) c.args.nested.range.to (drop (length c.args.tokens.now - c.args.nested.range.from) c.args.tokens.now) ≡ Err c.in-Err.cause = first_of (search (rules, other), grind (arith, common_steps, other)) in q)))
