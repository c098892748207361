use Rattle.std.proofs.Common.{◌≡◌, ◌∙◌, sym, ap}
use Rattle.actx_event.specs.Front.{front}
use Rattle.actx_event.specs.Valid.{same_value, is_read}
use Rattle.actx_event.proofs.SameValue.{value_test}
use Rattle.actx_event.proofs.checking.is_read.Goals as goal

pub returns-in_ok-nearest-in-Get : goal.returns-in_ok-nearest-in-Get
returns-in_ok-nearest-in-Get c =
    let p = front c.args.log.now c.args.n in
    let found = c.in_ok-nearest-in-Get.nearest in
    let same : c.is_same.result ≡ same_value c.in-Get.value found = value_test c.is_same.result c.in-Get.value found c.is_same.ensures.0 c.is_same.ensures.1 in
    same ∙ (ap (same_value c.in-Get.value) c.in_ok-nearest-in-Get.ensures ∙ ap (λ e. is_read e p) (sym c.in-Get.is))
