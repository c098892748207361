-- What a list of literals prints (the Console standard, §2.3: the arguments, joined by one space).
use Rattle.std.specs.Prelude.{ℕ, true, false, List, [], ◌∷◌, ◌++◌, codes}
use Rattle.std.specs.List.{flat_map}
use Rattle.std.specs.Fmt.{signed_decimal}
use Rattle.actx_text.specs.Texts.{utf8_text}
use Rattle.actx_printing.specs.declared.lit.Lit.{Lit}
use Rattle.actx_printing.specs.declared.lit.Lit.TheVariants as lit

-- a number in decimal, a text in UTF-8, and the words
abbrev pub text_of : Lit → List ℕ
text_of (lit.Num n) = signed_decimal n
text_of (lit.Text text) = utf8_text text
text_of (lit.Bool true) = codes "true"
text_of (lit.Bool false) = codes "false"
text_of lit.Null = codes "null"

abbrev pub after_space : Lit → List ℕ
after_space l = 32 ∷ text_of l

-- with one space between
abbrev pub joined : List Lit → List ℕ
joined [] = []
joined (l ∷ ls) = text_of l ++ flat_map after_space ls

-- one statement's line, with its line feed
abbrev pub line : List Lit → List ℕ
line ls = joined ls ++ 10 ∷ []

abbrev pub printed : List (List Lit) → List ℕ
printed all = flat_map line all
