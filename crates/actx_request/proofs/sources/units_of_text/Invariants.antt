use Rattle.std.proofs.Common.{◌≡◌, take}
use Rattle.actx_value.specs.Texts.{text_at}
use Rattle.std.specs.List.{filter, enumerate_from}
use Rattle.actx_value.specs.declared.value.Key.TheVariants.{Index}
use Rattle.actx_request.specs.Copies.{is_kept}
use Rattle.actx_request.proofs.sources.units_of_text.Given as goal

-- the units up to here
abbrev pub invariant-loop-place : goal.invariant-loop-place
invariant-loop-place l = l.units.items ≡ filter (λ e. is_kept l.fn.texts.texts l.fn.excluded (Index e.0)) (enumerate_from 0 (take l.place (text_at l.fn.texts.texts l.fn.t.0)))
