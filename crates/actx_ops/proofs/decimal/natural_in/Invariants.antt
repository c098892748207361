use Rattle.std.proofs.Common.{◌≡◌, ◌≤◌, take, drop}
use Rattle.std.specs.Str.Parse.{AllDigits, digits_value, digits_value_after}
use Rattle.actx_ops.proofs.decimal.natural_in.Given as goal

-- the digits up to here are digits, and with those left they make the number of all
abbrev pub invariant-loop-digit : goal.invariant-loop-digit
invariant-loop-digit l =
    (l.n ≤ 9007199254740991) × AllDigits 10 (take l.digit-index l.digits) × (digits_value_after 10 l.n (drop l.digit-index l.digits) ≡ digits_value 10 l.digits)
