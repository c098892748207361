-- The messages of the errors that the runtime throws, by constructor and number.
use Rattle.std.specs.Prelude.{ℕ, List, [], ◌∷◌, Option, codes, slice_get}
use Rattle.actx_value.specs.declared.error_kind.ErrorKind.{ErrorKind}
use Rattle.actx_value.specs.declared.error_kind.ErrorKind.TheVariants.{TypeError, RangeError, ReferenceError, Error}

-- the messages of each constructor, from number 0 on
abbrev pub type_error_messages : List (List ℕ)
type_error_messages =
    codes "not a function" ∷ codes "not a constructor" ∷ codes "not iterable"
    ∷ codes "no property of undefined or null" ∷ codes "frozen" ∷ codes "generator is running"
    ∷ codes "promise resolved with itself" ∷ codes "class called without new"
    ∷ codes "wrong receiver" ∷ codes "bad argument" ∷ codes "not an object" ∷ []

abbrev pub range_error_messages : List (List ℕ)
range_error_messages = codes "bad argument" ∷ []

abbrev pub reference_error_messages : List (List ℕ)
reference_error_messages = codes "not initialised" ∷ []

abbrev pub error_messages : List (List ℕ)
error_messages = codes "destroyed twice" ∷ codes "cannot find module" ∷ []

-- the message of an error, where there is one of this number
abbrev pub message_of : ErrorKind → Option (List ℕ)
message_of (TypeError number) = slice_get type_error_messages number
message_of (RangeError number) = slice_get range_error_messages number
message_of (ReferenceError number) = slice_get reference_error_messages number
message_of (Error number) = slice_get error_messages number
