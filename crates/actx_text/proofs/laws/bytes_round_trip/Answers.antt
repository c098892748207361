use Rattle.std.proofs.Common.{ap, sym, flat_map, ◌∙◌}
use Rattle.actx_text.specs.Utf8.{utf8_of}
use Rattle.actx_text.specs.Utf16.{scalars_of}
use Rattle.actx_text.proofs.Utf16Lemmas.{scalars_of-utf16}
use Rattle.actx_text.proofs.laws.bytes_round_trip.Goals as goal

pub returns : goal.returns
returns c bytes text spelled =
    ap (λ t. flat_map utf8_of (scalars_of t)) spelled.2
    ∙ ap (flat_map utf8_of) (scalars_of-utf16 spelled.0 spelled.1.valid) ∙ sym spelled.1.spelled
