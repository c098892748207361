-- Lists with commas between their members.
use Rattle.std.specs.Prelude.{Bool, true, false, Ok}
use Rattle.actx_grammar.specs.declared.bracket.Bracket.{Bracket}
use Rattle.actx_grammar.specs.Reader.{Parser, row_after}

-- Behind a member: true and what is behind a comma, or false and the closing bracket itself.
unfoldable pub list_goes_on : Bracket → Parser Bool
list_goes_on c = row_after c (λ i. Ok (true, i)) false
