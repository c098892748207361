-- Texts and templates are read part by part.
use Rattle.std.specs.Prelude.{[], ◌++◌}
use Rattle.actx_lex.specs.Units.{Text}

-- The text a is parts, which stand for the units us, and then b. `Part us a b`: the text a is one part, which stands for
-- the units us, and then b.
pub data Parts (Part : Text → Text → Text → Type 0) : Text → Text → Text → Type 0 where
  none : {a : Text} → Parts Part [] a a
  more : {us vs a m b : Text} → Part us a m → Parts Part vs m b → Parts Part (us ++ vs) a b
