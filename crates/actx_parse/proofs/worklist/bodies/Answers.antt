use Rattle.std.proofs.Common.{◌≡◌, ◌-◌, ◌+◌, ◌≤◌, ◌∙◌, drop, length, Some, None, sym, ap, Ok, Err, rules, arith}
use Rattle.std.specs.List.{slice_get}
use Rattle.std.specs.Option.{option_copied}
use Rattle.std.proofs.lemmas.Grind.{common_steps}
use Rattle.std.proofs.lemmas.List.{drop_all}
use Rattle.actx_program.specs.TreeReader.{bodies, bodies_from}
use Rattle.actx_parse.proofs.Turning.{none_is, list_ends, list_stops, list_goes_on, list_runs_out}
use Rattle.actx_parse.proofs.worklist.bodies.Goals as goal

pub returns-in-None : goal.returns-in-None
returns-in-None c =
    let q : slice_get c.loop-turn.work c.loop-turn.turn ≡ None = first_of (search rules, grind (arith, common_steps)) in
    list_ends c.args.tokens.now {w = bodies c.args.tokens.now 201 c.args.items.now} _ c.loop-turn.turn c.loop-turn.work c.loop-turn.found c.loop-turn.invariant (none_is c.loop-turn.work c.loop-turn.turn q)

pub returns-in_err-body : goal.returns-in_err-body
returns-in_err-body c =
    let q : slice_get c.loop-turn.work c.loop-turn.turn ≡ Some c.in-Some.nested.now = first_of (search rules, grind (arith, common_steps)) in
    let t = list_stops c.args.tokens.now {w = bodies c.args.tokens.now 201 c.args.items.now} _ c.loop-turn.turn c.loop-turn.work c.loop-turn.found c.loop-turn.work c.one_body.new.work c.in_err-body.field-0.0 c.loop-turn-test.true c.loop-turn.invariant q c.in_err-body.ensures in
    first_of (search (rules, t), grind (arith, common_steps, t))

pub loop-turn-preserved : goal.loop-turn-preserved
loop-turn-preserved c =
    let q : slice_get c.loop-turn.work c.loop-turn.turn ≡ Some c.in-Some.nested.now = first_of (search rules, grind (arith, common_steps)) in
    let b = c.in_ok-body.ensures in
    rw (c.in_ok-add_tree.ensures, b.2, b.3) (list_goes_on c.args.tokens.now {w = bodies c.args.tokens.now 201 c.args.items.now} _ c.loop-turn.turn c.loop-turn.work c.loop-turn.found c.loop-turn-test.true c.loop-turn.invariant q b.1)

pub returns-then-len-tokens : goal.returns-then-len-tokens
returns-then-len-tokens c = list_ends c.args.tokens.now {w = bodies c.args.tokens.now 201 c.args.items.now} _ c.loop-turn.turn c.loop-turn.work c.loop-turn.found c.loop-turn.invariant (drop_all c.loop-turn.turn c.loop-turn.work (omega arith))

pub returns : goal.returns
returns c = list_runs_out c.args.tokens.now {w = bodies c.args.tokens.now 201 c.args.items.now} _ c.loop-turn.turn c.loop-turn.work c.loop-turn.found c.loop-turn-test.false c.loop-turn.invariant (let l = c.len.ensures in omega arith)
