use Rattle.std.proofs.Common.{[], ap, ◌∙◌, unwrap_or}
use Rattle.std.proofs.lemmas.Option.{unwrap_or-slice_get}
use Rattle.std.specs.Prelude.{codes}
use Rattle.actx_value.specs.Texts.{texts_eq}
use Rattle.actx_objects.proofs.normal.is_length.Goals as goal

pub returns-in-None : goal.returns-in-None
returns-in-None c = rw c.in-Name.is (ap (λ text. texts_eq text (codes "length")) (ap (λ o. unwrap_or o []) c.in-None.ensures ∙ unwrap_or-slice_get c.args.texts.now.texts c.in-Name.t.0 []))
