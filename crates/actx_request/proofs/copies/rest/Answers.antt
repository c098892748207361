use Rattle.std.proofs.Common.{◌≡◌, ◌∙◌}
use Rattle.actx_value.specs.Texts.{text_at}
use Rattle.actx_request.specs.Copies.{units_of}
use Rattle.actx_request.proofs.copies.rest.Goals as goal

pub returns-in_ok-rest_units-in-Text : goal.returns-in_ok-rest_units-in-Text
returns-in_ok-rest_units-in-Text c cells =
    let units : c.as_slice-in-Text.result.now ≡ units_of c.args.texts.now.texts c.args.list.now (text_at c.args.texts.now.texts c.in-Text.t.0) = c.as_slice-in-Text.ensures.value ∙ c.in_ok-units-in-Text.ensures in
    rw c.in-Text.is (rw units at (c.in_ok-rest_units-in-Text.ensures cells))
