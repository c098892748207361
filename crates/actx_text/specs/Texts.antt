-- Texts and bytes: what `from_utf8` and `to_utf8` give.
use Rattle.std.specs.Prelude.{◌≡◌, ℕ, List, flat_map, ◌⊎◌, Result, Ok, Err}
use Rattle.actx_text.specs.Utf8.{utf8_of, IsUtf8Of}
use Rattle.actx_text.specs.Utf16.{utf16_of, scalars_of}
use Rattle.actx_text.specs.declared.error.TextError.{TextError}
use Rattle.actx_text.specs.declared.error.TextError.TheVariants.{BadUtf8, Memory}

-- the units of these scalar values, one after another
abbrev pub utf16_text : List ℕ → List ℕ
utf16_text scalars = flat_map utf16_of scalars

-- the text that the bytes spell: the units of the scalar values whose encodings they are
abbrev pub IsTextOf : List ℕ → List ℕ → Type 0
IsTextOf bytes text = (scalars : List ℕ) × IsUtf8Of bytes scalars × (text ≡ utf16_text scalars)

-- a text in UTF-8, with U+FFFD for each lone surrogate
abbrev pub utf8_text : List ℕ → List ℕ
utf8_text text = flat_map utf8_of (scalars_of text)

-- this text, unless there is no memory for it
abbrev pub GivesText : Result (List ℕ) TextError → List ℕ → Type 0
GivesText (Ok text) wanted = text ≡ wanted
GivesText (Err e) wanted = e ≡ Memory

-- the refusal at this place, unless there is no memory
abbrev pub RefusesAt : Result (List ℕ) TextError → ℕ → Type 0
RefusesAt result at = (result ≡ Err (BadUtf8 at)) ⊎ (result ≡ Err Memory)
