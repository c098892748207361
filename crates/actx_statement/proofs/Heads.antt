-- The head of a `for` in two parts.
use Rattle.std.proofs.Common.{◌≡◌, Ok, Err, refl}
use Rattle.actx_tree.specs.declared.stmt.ForInit.{ForInit}
use Rattle.actx_grammar.specs.declared.bracket.Bracket.TheVariants as bracket
use Rattle.actx_grammar.specs.Kinds.{closes, is_semicolon}
use Rattle.actx_grammar.specs.Tokens.{Tokens}
use Rattle.actx_grammar.specs.Reader.{Outcome, Parser, Read, and_then, expect}
use Rattle.actx_program.specs.StatementReader.{Within, for_after, value_to}
use Rattle.actx_statement.specs.More.{for_tests, for_last}

one : {X Y Z : Type 0} (x : X) (o : Outcome Y) (k : X × Y → Parser Z)
    → and_then o (λ y q. k (x, y) q) ≡ and_then (and_then o (λ y q. Ok ((x, y), q))) k
unfolding and_then
one x (Ok p) k = refl
one x (Err e) k = refl

two : {X Y Z : Type 0} (o : Outcome X) (g : Parser Y) (k : X × Y → Parser Z)
    → and_then o (λ x n. and_then (g n) (λ y q. k (x, y) q)) ≡ and_then (and_then o (λ x n. and_then (g n) (λ y q. Ok ((x, y), q)))) k
unfolding and_then
two (Ok p) g k = one p.0 (g p.1) k
two (Err e) g k = refl

three : {X Y Z : Type 0} (o : Outcome (Unit {0})) (f : Parser X) (g : Parser Y) (k : X × Y → Parser Z)
    → and_then o (λ _ m. and_then (f m) (λ x n. and_then (g n) (λ y q. k (x, y) q))) ≡ and_then (and_then o (λ _ m. and_then (f m) (λ x n. and_then (g n) (λ y q. Ok ((x, y), q))))) k
unfolding and_then
three (Ok p) f g k = two (f p.1) g k
three (Err e) f g k = refl

pub head_is : (within : Within) (first : Read ForInit) (i : Tokens) → for_after within first i ≡ and_then (for_tests within i) (for_last within first)
unfolding for_after for_tests
head_is within first i = three (expect is_semicolon i) (value_to within is_semicolon) (value_to within (closes bracket.Round)) (for_last within first)
