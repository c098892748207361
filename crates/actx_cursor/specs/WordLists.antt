-- The reserved words of actx_grammar in parts, each from a word on.
use Rattle.std.specs.Prelude.{codes, ℕ, List, [], ◌∷◌}
use Rattle.actx_grammar.specs.declared.word.Word.{Word}
use Rattle.actx_grammar.specs.declared.word.Word.TheVariants as word

abbrev pub words_from_true : List (List ℕ × Word)
words_from_true = (codes "true", word.True) ∷ (codes "try", word.Try) ∷ (codes "typeof", word.Typeof) ∷ (codes "void", word.Void) ∷ (codes "while", word.While) ∷ (codes "yield", word.Yield) ∷ []

abbrev pub words_from_null : List (List ℕ × Word)
words_from_null = (codes "null", word.Null) ∷ (codes "return", word.Return) ∷ (codes "static", word.Static) ∷ (codes "super", word.Super) ∷ (codes "switch", word.Switch) ∷ (codes "this", word.This) ∷ (codes "throw", word.Throw) ∷ words_from_true

abbrev pub words_from_for : List (List ℕ × Word)
words_from_for = (codes "for", word.For) ∷ (codes "function", word.Function) ∷ (codes "if", word.If) ∷ (codes "in", word.In) ∷ (codes "instanceof", word.Instanceof) ∷ (codes "let", word.Let) ∷ (codes "new", word.New) ∷ words_from_null

abbrev pub words_from_default : List (List ℕ × Word)
words_from_default = (codes "default", word.Default) ∷ (codes "delete", word.Delete) ∷ (codes "do", word.Do) ∷ (codes "else", word.Else) ∷ (codes "extends", word.Extends) ∷ (codes "false", word.False) ∷ (codes "finally", word.Finally) ∷ words_from_for
