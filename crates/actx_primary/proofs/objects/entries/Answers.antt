use Rattle.std.proofs.Common.{◌≡◌, ◌∙◌, sym, ap, Bool, true, false, [], Ok, Err, rules, arith}
use Rattle.std.proofs.lemmas.Grind.{common_steps}
use Rattle.actx_grammar.specs.Kinds.{closes}
use Rattle.actx_grammar.specs.Tokens.{next}
use Rattle.actx_grammar.specs.Reader.{count, row_from}
use Rattle.actx_grammar.specs.Lines.{below, entry, entries}
use Rattle.actx_grammar.specs.declared.bracket.Bracket.TheVariants as bracket
use Rattle.actx_pattern.specs.Lists.{list_goes_on}
use Rattle.actx_pattern.proofs.Rows.{row_goes_on, row_last, row_stops}
use Rattle.actx_primary.proofs.objects.entries.Goals as goal

pub loop-turn-preserved : goal.loop-turn-preserved
loop-turn-preserved g c =
    let ended : closes bracket.Curly (next c.loop-turn.cursor) ≡ false = sym c.closes.ensures ∙ c.if-closes.false in
    let again : list_goes_on bracket.Curly c.entry.new.cursor ≡ Ok (true, c.list_goes_on.new.cursor) =
    c.in_ok-more.ensures ∙ ap (λ (b : Bool). Ok (b, c.list_goes_on.new.cursor)) c.if-not-more.false in
    let e = row_goes_on bracket.Curly (closes bracket.Curly) (entry (below c.args.inner.now.room)) {w = row_from bracket.Curly (closes bracket.Curly) (entry (below c.args.inner.now.room)) (count c.args.cursor.now) [] 0 c.args.cursor.now} c.len-turn-end.result c.loop-turn._turn c.loop-turn.found c.loop-turn.highest
    c.loop-turn.cursor c.loop-turn-test.true c.loop-turn.invariant.reads ended c.in_ok-member.ensures.reads again in
    record { reads = first_of (search rules, grind (arith, common_steps)); low = first_of (search rules, grind (arith, common_steps)) }

pub returns-then-not-more-clause-reads : goal.returns-then-not-more-clause-reads
unfolding entries
returns-then-not-more-clause-reads g c =
    let ended : closes bracket.Curly (next c.loop-turn.cursor) ≡ false = sym c.closes.ensures ∙ c.if-closes.false in
    let last : list_goes_on bracket.Curly c.entry.new.cursor ≡ Ok (false, c.list_goes_on.new.cursor) =
    c.in_ok-more.ensures ∙ ap (λ (b : Bool). Ok (b, c.list_goes_on.new.cursor)) c.if-not-more.true in
    let e = row_last bracket.Curly (closes bracket.Curly) (entry (below c.args.inner.now.room)) {w = row_from bracket.Curly (closes bracket.Curly) (entry (below c.args.inner.now.room)) (count c.args.cursor.now) [] 0 c.args.cursor.now} c.len-turn-end.result c.loop-turn._turn c.loop-turn.found c.loop-turn.highest
    c.loop-turn.cursor c.loop-turn-test.true c.loop-turn.invariant.reads ended c.in_ok-member.ensures.reads last in
    first_of (search rules, grind (arith, common_steps))

pub returns-in_err-more-clause-reads : goal.returns-in_err-more-clause-reads
unfolding entries
returns-in_err-more-clause-reads g c =
    let ended : closes bracket.Curly (next c.loop-turn.cursor) ≡ false = sym c.closes.ensures ∙ c.if-closes.false in
    let stops : list_goes_on bracket.Curly c.entry.new.cursor ≡ Err c.in_err-more.field-0.0 → row_from bracket.Curly (closes bracket.Curly) (entry (below c.args.inner.now.room)) (count c.args.cursor.now) [] 0 c.args.cursor.now ≡ Err c.in_err-more.field-0.0 =
    λ s. row_stops bracket.Curly (closes bracket.Curly) (entry (below c.args.inner.now.room)) {w = row_from bracket.Curly (closes bracket.Curly) (entry (below c.args.inner.now.room)) (count c.args.cursor.now) [] 0 c.args.cursor.now} c.len-turn-end.result c.loop-turn._turn c.loop-turn.found c.loop-turn.highest
    c.loop-turn.cursor c.loop-turn-test.true c.loop-turn.invariant.reads ended c.in_ok-member.ensures.reads s in
    first_of (search rules, grind (arith, common_steps))
