-- How a call ends: the status of each answer, and its line on standard error.
use Rattle.std.specs.Prelude.{ℕ, List, [], ◌∷◌, ◌++◌, codes}
use Rattle.std.specs.Fmt.{decimal}
use Rattle.actx_cli.specs.declared.answer.Answer.{Answer}
use Rattle.actx_cli.specs.declared.answer.Answer.TheVariants.{Finished, Usage, CannotRead, TooLong, Refused, WriteFault, Memory}
use Rattle.actx_cli.specs.declared.answer.Refusal.{Refusal}
use Rattle.actx_cli.specs.declared.answer.Refusal.TheVariants.{Utf8, Token, Tree, Nested, Early, NotBuilt}

abbrev pub status_of : Answer → ℕ
status_of Finished = 0
status_of Usage = 64
status_of (Refused kind at) = 65
status_of CannotRead = 66
status_of TooLong = 66
status_of WriteFault = 74
status_of (Memory steps) = 75

-- a line and its line feed
abbrev pub line_feed : List ℕ
line_feed = 10 ∷ []

-- the word of each kind of refusal
abbrev pub word_of : Refusal → List ℕ
word_of Utf8 = codes "utf8"
word_of Token = codes "token"
word_of Tree = codes "tree"
word_of Nested = codes "nested"
word_of Early = codes "early"
word_of NotBuilt = codes "notbuilt"

-- the line of a refusal up to its place
abbrev pub refused_front : Refusal → List ℕ
refused_front kind = codes "actx: refused " ++ (word_of kind ++ codes " at ")

abbrev pub line_of : Answer → List ℕ
line_of Finished = []
line_of Usage = codes "actx: usage" ++ line_feed
line_of (Refused kind at) = refused_front kind ++ (decimal at ++ line_feed)
line_of CannotRead = codes "actx: cannot read" ++ line_feed
line_of TooLong = codes "actx: too long" ++ line_feed
line_of WriteFault = codes "actx: write fault" ++ line_feed
line_of (Memory steps) = codes "actx: memory after " ++ (decimal steps ++ (codes " steps" ++ line_feed))
