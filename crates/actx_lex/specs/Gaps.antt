-- What stands between tokens: white space, line ends and comments (ECMA-262 §12.2 to §12.5).
use Rattle.std.specs.Prelude.{codes, ◌≡◌, Bool, true, false, ◌||◌, ℕ, [], ◌∷◌, ◌++◌}
use Rattle.std.specs.List.{list_any}
use Rattle.actx_lex.specs.Units.{Text, is_white_space, is_line_end}

abbrev pub holds_line_end : Text → Bool
holds_line_end us = list_any is_line_end us

-- whether nothing or a line end follows
abbrev pub at_line_end : Text → Bool
at_line_end [] = true
at_line_end (c ∷ a) = is_line_end c

-- The text a is units up to the next line end, or up to the end of the text, and then b.
pub data RestOfLine : Text → Text → Type 0 where
  rest_of_line : (us : Text) {a b : Text} → a ≡ us ++ b → holds_line_end us ≡ false → at_line_end b ≡ true → RestOfLine a b

-- no part of the units is this sign
abbrev pub Lacks : Text → Text → Type 0
Lacks sign us = (x y : Text) → us ≡ x ++ (sign ++ y) → ⊥

-- The text a is one white space, line end or comment and then b; whether that counts as a line end. A comment of
-- many lines counts as one where it holds one (§12.4), and it ends with the first "*/" in it.
pub data GapItem : Bool → Text → Text → Type 0 where
  white_space : {c : ℕ} {a b : Text} → a ≡ c ∷ b → is_white_space c ≡ true → GapItem false a b
  line_end : {c : ℕ} {a b : Text} → a ≡ c ∷ b → is_line_end c ≡ true → GapItem true a b
  line_comment : {a m b : Text} → a ≡ codes "//" ++ m → RestOfLine m b → GapItem false a b
  block_comment : (us : Text) {a b : Text} → a ≡ codes "/*" ++ (us ++ (codes "*/" ++ b)) → Lacks (codes "*/") us
      → GapItem (holds_line_end us) a b

-- The text a is a gap and then b; whether the gap holds a line end.
pub data Gap : Bool → Text → Text → Type 0 where
  none : {a : Text} → Gap false a a
  more : {i e : Bool} {a m b : Text} → GapItem i a m → Gap e m b → Gap (i || e) a b

-- §12.5: the text a is a comment "#!" and then b, or a is b and doesn't begin so.
pub data Opened : Text → Text → Type 0 where
  hashbang : {a m b : Text} → a ≡ codes "#!" ++ m → RestOfLine m b → Opened a b
  plain : {a : Text} → ((m : Text) → a ≡ codes "#!" ++ m → ⊥) → Opened a a
