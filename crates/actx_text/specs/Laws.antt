-- Laws of the texts and their bytes.
use Rattle.std.specs.Prelude.{◌≡◌, ℕ, ◌<◌, ◌^◌, List, ◌++◌, All}
use Rattle.actx_text.specs.Utf8.{IsUtf8Of}
use Rattle.actx_text.specs.Utf16.{well_formed}
use Rattle.actx_text.specs.Texts.{IsTextOf, utf8_text}
use Rattle.actx_text.specs.Quoted.{quoted_text}

-- each number is one of a unit, of 16 bits
abbrev pub AreUnits : List ℕ → Type 0
AreUnits text = All (λ u. u < 2 ^ 16) text

-- bytes are the encodings of at most one list of scalar values
abbrev pub HasOneDecoding : Type 0
HasOneDecoding = (bytes scalars others : List ℕ) → IsUtf8Of bytes scalars → IsUtf8Of bytes others → scalars ≡ others

-- the bytes of the text that some bytes spell are these bytes
abbrev pub BytesRoundTrip : Type 0
BytesRoundTrip = (bytes text : List ℕ) → IsTextOf bytes text → utf8_text text ≡ bytes

-- the bytes of a text spell the text with U+FFFD in the place of each lone surrogate
abbrev pub TextRoundTrip : Type 0
TextRoundTrip = (text : List ℕ) → AreUnits text → IsTextOf (utf8_text text) (well_formed text)

-- where two quoted texts stand at the front of the same bytes, they are one text
abbrev pub HasOneReading : Type 0
HasOneReading = (text other after behind : List ℕ) → AreUnits text → AreUnits other
    → quoted_text text ++ after ≡ quoted_text other ++ behind → (text ≡ other) × (after ≡ behind)
