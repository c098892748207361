-- Laws of the texts of numbers.
use Rattle.std.specs.Prelude.{◌≡◌, ◌↔◌, ℤ, true, List, ℕ, Some}
use Rattle.std.specs.Fmt.{signed_decimal}
use Rattle.actx_ops.specs.Numbers.{is_safe}
use Rattle.actx_ops.specs.Texts.{number_in}

-- a text spells exactly the safe integer whose text it is
abbrev pub TextsOfNumbersAreRead : Type 0
TextsOfNumbersAreRead = (text : List ℕ) (n : ℤ) → (number_in text ≡ Some n) ↔ ((text ≡ signed_decimal n) × (is_safe n ≡ true))
