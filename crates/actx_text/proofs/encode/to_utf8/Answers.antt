use Rattle.std.proofs.Common.{ap, ◌∙◌, vec_items}
use Rattle.std.specs.Str.{encode_utf8_all}
use Rattle.std.specs.Char.Utf16.{utf16_lossy_chars}
use Rattle.actx_text.proofs.TextLemmas.{utf8_text_is}
use Rattle.actx_text.proofs.encode.to_utf8.Goals as goal

pub returns : goal.returns
returns c =
    ap vec_items c.into_bytes.ensures.value ∙ c.in_ok-text.ensures
    ∙ ap (λ t. encode_utf8_all (utf16_lossy_chars t)) c.as_units.ensures ∙ utf8_text_is c.args.t.now
