-- What the levels of the reader hold.
use Rattle.std.proofs.Common.{◌≡◌, ℕ, zero, suc, ◌<◌, ◌≤◌, true, false, Ok, Err, refl, ap, arith}
use Rattle.std.specs.Prelude.{nat_le, if◌then◌else◌}
use Rattle.std.proofs.lemmas.Bool.Decides.{nat_tests}
use Rattle.actx_grammar.specs.declared.error.Cause.TheVariants.{TooNested}
use Rattle.actx_grammar.specs.Lines.{below}
use Rattle.actx_grammar.specs.Reader.{fits}
use Rattle.actx_grammar.specs.Tokens.{Tokens}
use Rattle.actx_program.specs.StatementReader.{inside}
use Rattle.actx_program.proofs.CompleteStatements.{inside_room}

pub inner_is : (n : ℕ) → (inside n).inner ≡ below n
unfolding inside
inner_is zero = refl
inner_is (suc n) = refl

pub allowed : (room levels : ℕ) (i : Tokens) → levels ≤ room → fits (inside room).inner levels i ≡ Ok (tt, i)
unfolding fits
allowed room levels i le = let e : nat_le levels (inside room).inner.room ≡ true = rw (inside_room room) (grind (arith, nat_tests)) in ap (λ d. if d then Ok (tt, i) else Err TooNested) e

pub refused : (room levels : ℕ) (i : Tokens) → room < levels → fits (inside room).inner levels i ≡ Err TooNested
unfolding fits
refused room levels i lt = let e : nat_le levels (inside room).inner.room ≡ false = rw (inside_room room) (grind (arith, nat_tests)) in ap (λ d. if d then Ok (tt, i) else Err TooNested) e
