use Rattle.std.proofs.Common.{refl}
use Rattle.actx_text.specs.Utf16.{scalars_of}
use Rattle.actx_text.proofs.Utf16Lemmas.{scalars_of-IsRoundTrip}
use Rattle.actx_text.proofs.laws.text_round_trip.Goals as goal

pub returns : goal.returns
returns c text small =
    let back = scalars_of-IsRoundTrip text small in
    (scalars_of text, record { valid = back.valid; spelled = refl }, back.units)
