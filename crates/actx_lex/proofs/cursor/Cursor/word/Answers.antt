use Rattle.std.proofs.Common.{◌≡◌, ◌∙◌, sym, None, false, true, rules, arith}
use Rattle.std.proofs.lemmas.Grind.{common_steps}
use Rattle.actx_lex.specs.Words.{stop}
use Rattle.actx_lex.specs.Readers.{after_character}
use Rattle.actx_lex.proofs.Words.{char, join, rest-ends, not_longer, found, none_found, goes_on}
use Rattle.actx_lex.proofs.cursor.Cursor.word.Goals as goal

pub loop-after-smaller : goal.loop-after-smaller
loop-after-smaller c = (char false c.loop-after.end _ (sym c.in-Some-after_character.ensures)).1

pub loop-after-preserved : goal.loop-after-preserved
loop-after-preserved c = goes_on c.loop-after.end _ c.loop-after.invariant (sym c.in-Some-after_character.ensures)

pub until-requires : goal.until-requires
until-requires c = not_longer (join (char true c.args.self.now _ (sym c.in-Some.ensures)).0 (rest-ends (c.loop-after.invariant _ stop)))

pub returns : goal.returns
returns c =
    let n : after_character false c.loop-after.end ≡ None = first_of (search rules, grind (arith, common_steps)) in
    found _ c.in-Some.end _ _ (sym c.in-Some.ensures) (c.loop-after.invariant _ stop) n (c.from_units.ensures ∙ c.in_ok-units.ensures)

pub returns-in_default : goal.returns-in_default
returns-in_default c us b = none_found _ us b (sym c.in_default.ensures)
