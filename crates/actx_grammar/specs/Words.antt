-- The reserved words that the grammar names (ECMA-262 §12.7.2).
use Rattle.std.specs.Prelude.{codes, ℕ, Bool, true, false, ◌&&◌, ◌==◌, if◌then◌else◌, List, [], ◌∷◌}
use Rattle.actx_grammar.specs.declared.word.Word.{Word}
use Rattle.actx_grammar.specs.declared.word.Word.TheVariants as word

-- whether the units are the same
unfoldable pub same_units : List ℕ → List ℕ → Bool
same_units [] [] = true
same_units [] (d ∷ b) = false
same_units (c ∷ a) [] = false
same_units (c ∷ a) (d ∷ b) = (c == d) && same_units a b

abbrev pub words : List (List ℕ × Word)
words =
    (codes "await", word.Await) ∷ (codes "break", word.Break) ∷ (codes "case", word.Case) ∷ (codes "catch", word.Catch)
    ∷ (codes "class", word.Class) ∷ (codes "const", word.Const) ∷ (codes "continue", word.Continue) ∷ (codes "default", word.Default)
    ∷ (codes "delete", word.Delete) ∷ (codes "do", word.Do) ∷ (codes "else", word.Else) ∷ (codes "extends", word.Extends)
    ∷ (codes "false", word.False) ∷ (codes "finally", word.Finally) ∷ (codes "for", word.For) ∷ (codes "function", word.Function)
    ∷ (codes "if", word.If) ∷ (codes "in", word.In) ∷ (codes "instanceof", word.Instanceof) ∷ (codes "let", word.Let)
    ∷ (codes "new", word.New) ∷ (codes "null", word.Null) ∷ (codes "return", word.Return) ∷ (codes "static", word.Static)
    ∷ (codes "super", word.Super) ∷ (codes "switch", word.Switch) ∷ (codes "this", word.This) ∷ (codes "throw", word.Throw)
    ∷ (codes "true", word.True) ∷ (codes "try", word.Try) ∷ (codes "typeof", word.Typeof) ∷ (codes "void", word.Void)
    ∷ (codes "while", word.While) ∷ (codes "yield", word.Yield) ∷ []

unfoldable pub word_among : List (List ℕ × Word) → List ℕ → Word
word_among [] units = word.Other
word_among (w ∷ ws) units = if same_units units w.0 then w.1 else word_among ws units

-- the reserved word of these units
unfoldable pub word_of : List ℕ → Word
word_of = word_among words

-- the units of `async`, which is a name (§12.7.2)
abbrev pub async_word : List ℕ
async_word = codes "async"
