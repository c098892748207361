use Rattle.std.proofs.Common.{sym, arith, rules}
use Rattle.std.proofs.lemmas.Grind.{common_steps}
use Rattle.actx_lex.specs.Readers.{last, digit}
use Rattle.actx_lex.proofs.Digits.{shorter}
use Rattle.actx_lex.proofs.cursor.Cursor.digits.Goals as goal

pub returns-then-value-gt-MAX_SAFE_INTEGER : goal.returns-then-value-gt-MAX_SAFE_INTEGER
returns-then-value-gt-MAX_SAFE_INTEGER c =
    (_, _, c.loop-digit.invariant.counts _ _ (digit (sym c.in-Some.ensures.value) last), c.if-value-gt-MAX_SAFE_INTEGER.true)

pub loop-digit-smaller : goal.loop-digit-smaller
loop-digit-smaller c = shorter c.loop-digit.left _ (sym c.in-Some.ensures.value)

pub loop-digit-preserved : goal.loop-digit-preserved
loop-digit-preserved c = record {
  counts = λ n b d. c.loop-digit.invariant.counts n b (digit (sym c.in-Some.ensures.value) d);
  small = omega arith;
}

pub returns : goal.returns
returns c = (c.loop-digit.invariant.counts _ _ last, first_of (search rules, grind (arith, common_steps)), c.loop-digit.invariant.small)
