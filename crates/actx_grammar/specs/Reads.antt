-- What a function that reads ensures: it gives what the definition gives, and leaves the tokens that the definition
-- leaves, unless memory fails. After a refusal nothing is said of the tokens that are left.
use Rattle.std.specs.Prelude.{◌≡◌, ◌≢◌, Result, Ok, Err}
use Rattle.actx_grammar.specs.declared.error.Cause.{Cause}
use Rattle.actx_grammar.specs.declared.error.Cause.TheVariants.{Memory}
use Rattle.actx_grammar.specs.Tokens.{Tokens}
use Rattle.actx_grammar.specs.Reader.{Outcome}

abbrev pub Reads : {A : Type 0} → Outcome A → Result A Cause → Tokens → Type 0
Reads outcome (Ok a) new = outcome ≡ Ok (a, new)
Reads outcome (Err e) new = e ≢ Memory → outcome ≡ Err e
