-- Names that the conditions and the scopes speak of.
use Rattle.std.specs.Prelude.{codes, Bool, true, false, ◌&&◌, ◌||◌, ◌==◌, List, [], ◌∷◌, Option, Some, None}
use Rattle.actx_text.specs.declared.units.Units.{Units}

-- whether the units are the same
unfoldable pub same_units : Units → Units → Bool
same_units [] [] = true
same_units [] (d ∷ b) = false
same_units (c ∷ a) [] = false
same_units (c ∷ a) (d ∷ b) = (c == d) && same_units a b

-- whether a name is among these
unfoldable pub among : Units → List Units → Bool
among name [] = false
among name (x ∷ xs) = same_units name x || among name xs

-- whether there is a word, and it is this
abbrev pub is_word : Units → Option Units → Bool
is_word name None = false
is_word name (Some x) = same_units name x

abbrev pub constructor_word : Units
constructor_word = codes "constructor"

abbrev pub proto_word : Units
proto_word = codes "__proto__"

-- The global names, in the order of their slots (ECMA-262 §19, and the hosts' own).
abbrev pub global_names : List Units
global_names =
    codes "undefined" ∷ codes "console" ∷ codes "host" ∷ codes "process" ∷ codes "require"
    ∷ codes "setTimeout" ∷ codes "setInterval" ∷ codes "setImmediate" ∷ codes "clearTimeout" ∷ codes "clearInterval" ∷ codes "clearImmediate"
    ∷ codes "queueMicrotask" ∷ codes "Object" ∷ codes "Array" ∷ codes "String" ∷ codes "Number" ∷ codes "Boolean" ∷ codes "Math"
    ∷ codes "Error" ∷ codes "TypeError" ∷ codes "RangeError" ∷ codes "ReferenceError" ∷ codes "AggregateError"
    ∷ codes "Map" ∷ codes "Set" ∷ codes "Promise" ∷ codes "AsyncContext" ∷ codes "AsyncLocalStorage" ∷ codes "AsyncResource" ∷ []
