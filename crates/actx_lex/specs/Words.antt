-- Words: names and reserved words (ECMA-262 §12.7).
use Rattle.std.specs.Prelude.{codes, ◌≡◌, ℕ, Bool, true, false, ◌&&◌, ◌==◌, List, [], ◌∷◌, ◌++◌, Option, Some, None}
use Rattle.std.specs.List.{list_any}
use Rattle.actx_lex.specs.Units.{Text, first_character, starts_word, continues_word}

-- The text a is characters that a word may go on with (§12.7, IdentifierPartChar) and then b.
pub data WordRest : Text → Text → Type 0 where
  stop : {a : Text} → WordRest a a
  go : {c : ℕ} {a m b : Text} → first_character a ≡ Some (c, m) → continues_word c ≡ true → WordRest m b → WordRest a b

-- The text a is a word of the units us and then b (§12.7, IdentifierName).
pub data Word : Text → Text → Text → Type 0 where
  word : {c : ℕ} {us a m b : Text} → a ≡ us ++ b → first_character a ≡ Some (c, m) → starts_word c ≡ true → WordRest m b → Word us a b

abbrev pub is_word_part : Option (ℕ × Text) → Bool
is_word_part None = false
is_word_part (Some r) = continues_word r.0

-- whether a character that a word may go on with comes next
abbrev pub begins_word_part : Text → Bool
begins_word_part a = is_word_part (first_character a)

-- whether the units are the same
unfoldable pub same_units : Text → Text → Bool
same_units [] [] = true
same_units [] (d ∷ b) = false
same_units (c ∷ a) [] = false
same_units (c ∷ a) (d ∷ b) = (c == d) && same_units a b

-- §12.7.2: the keywords, the literals `null`, `true` and `false`, and what strict code keeps or may not bind
abbrev pub reserved_words : List Text
reserved_words =
    codes "arguments" ∷ codes "await" ∷ codes "break" ∷ codes "case" ∷ codes "catch" ∷ codes "class" ∷ codes "const" ∷ codes "continue"
    ∷ codes "debugger" ∷ codes "default" ∷ codes "delete" ∷ codes "do" ∷ codes "else" ∷ codes "enum" ∷ codes "eval" ∷ codes "export"
    ∷ codes "extends" ∷ codes "false" ∷ codes "finally" ∷ codes "for" ∷ codes "function" ∷ codes "if" ∷ codes "implements" ∷ codes "import"
    ∷ codes "in" ∷ codes "instanceof" ∷ codes "interface" ∷ codes "let" ∷ codes "new" ∷ codes "null" ∷ codes "package" ∷ codes "private"
    ∷ codes "protected" ∷ codes "public" ∷ codes "return" ∷ codes "static" ∷ codes "super" ∷ codes "switch" ∷ codes "this" ∷ codes "throw"
    ∷ codes "true" ∷ codes "try" ∷ codes "typeof" ∷ codes "var" ∷ codes "void" ∷ codes "while" ∷ codes "with" ∷ codes "yield" ∷ []

unfoldable pub is_reserved : Text → Bool
is_reserved us = list_any (same_units us) reserved_words
