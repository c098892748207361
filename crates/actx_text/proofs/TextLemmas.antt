-- What decoding and encoding by std's words give.
use Rattle.std.proofs.Common.{◌≡◌, List, ℕ, ap, sym, ◌∙◌, chars}
use Rattle.std.specs.Str as str
use Rattle.std.specs.Char.Utf16.{utf16_lossy_chars}
use Rattle.actx_text.specs.Utf8.{IsUtf8Of}
use Rattle.actx_text.specs.Texts.{utf16_text, utf8_text, IsTextOf}
use Rattle.actx_text.specs.Utf16.{scalars_of}
use Rattle.actx_text.proofs.Utf8Lemmas.{IsUtf8Of-chars, one_decoding, flat_map-utf8_of}
use Rattle.actx_text.proofs.Utf16Lemmas.{scalars_of-is}

-- the units of the characters of a text are what its bytes spell
pub spelled_by : (bytes text units : List ℕ) → text ≡ bytes → str.IsUtf8 bytes → units ≡ utf16_text (chars text) → IsTextOf bytes units
spelled_by bytes text units same u e =
    (chars bytes, IsUtf8Of-chars bytes u, e ∙ ap (λ t. utf16_text (chars t)) same)

-- bytes spell one text
pub one_text : (bytes units scalars : List ℕ) → IsTextOf bytes units → IsUtf8Of bytes scalars → units ≡ utf16_text scalars
one_text bytes units scalars spelled is = spelled.2 ∙ ap utf16_text (one_decoding bytes spelled.0 scalars spelled.1 is)

-- the bytes of a text, by std's words
pub utf8_text_is : (text : List ℕ) → str.encode_utf8_all (utf16_lossy_chars text) ≡ utf8_text text
utf8_text_is text = sym (flat_map-utf8_of (scalars_of text) ∙ ap str.encode_utf8_all (scalars_of-is text))
