use Rattle.std.proofs.Common.{◌≡◌, ◌∷◌, [], ◌++◌, drop, flat_map}
use Rattle.actx_shown.specs.Quotes.{unit_form, text_form}
use Rattle.actx_shown.proofs.quotes.push_text.Given as goal

abbrev pub invariant-loop-unit : goal.invariant-loop-unit
invariant-loop-unit l = l.out.items ++ (flat_map unit_form (drop l.unit-index l.text) ++ 0x27 ∷ []) ≡ l.fn.out.items ++ text_form l.fn.text
