use Rattle.std.proofs.Common.{◌≡◌, ◌≢◌, ◌≤◌, ◌<◌, ℕ, Bool, true, false, Ok, Err, refl, ap, ◌∙◌, arith}
use Rattle.std.specs.Prelude.{nat_le, if◌then◌else◌}
use Rattle.actx_lex.specs.declared.token.Token.{Token}
use Rattle.actx_grammar.specs.declared.error.Cause.TheVariants.{TooNested}
use Rattle.actx_grammar.specs.Tokens.{Tokens}
use Rattle.actx_grammar.specs.Reader.{Outcome, fits}
use Rattle.actx_grammar.specs.Lines.{below}
use Rattle.actx_grammar.proofs.Complete.{room_is}
use Rattle.actx_cursor.proofs.inner.Inner.fits.Goals as goal
use Rattle.std.proofs.lemmas.Bool.Decides.{nat_tests}

allowed : (room levels : ℕ) (i : Tokens) → levels ≤ room → fits (below room) levels i ≡ Ok (tt, i)
unfolding fits
allowed room levels i le = let e : nat_le levels (below room).room ≡ true = rw (room_is room) (grind (arith, nat_tests)) in ap (λ d. if d then Ok (tt, i) else Err TooNested) e

refused : (room levels : ℕ) (i : Tokens) → room < levels → fits (below room) levels i ≡ Err TooNested
unfolding fits
refused room levels i lt = let e : nat_le levels (below room).room ≡ false = rw (room_is room) (grind (arith, nat_tests)) in ap (λ d. if d then Ok (tt, i) else Err TooNested) e

pub returns-then-levels-self-clause-reads : goal.returns-then-levels-self-clause-reads
returns-then-levels-self-clause-reads g c = λ i. allowed c.args.self.now.room c.args.levels i (omega arith)

pub returns-else-levels-self-clause-reads : goal.returns-else-levels-self-clause-reads
returns-else-levels-self-clause-reads g c = λ i _. refused c.args.self.now.room c.args.levels i (omega arith)
