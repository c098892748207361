-- What is wanted after a list of answers, and how requests, values and loops follow one another.
use Rattle.std.specs.Prelude.{ℕ, zero, suc, List, [], ◌∷◌, length, Bool, true, false}
use Rattle.actx_value.specs.declared.ids.ScopeId.{ScopeId}
use Rattle.actx_value.specs.declared.value.Value.{Value}
use Rattle.actx_value.specs.declared.value.Value.TheVariants as values
use Rattle.actx_value.specs.declared.request.Request.{Request}
use Rattle.actx_value.specs.declared.request.Request.TheVariants as requests
use Rattle.actx_value.specs.declared.value.Answer.{Answer}
use Rattle.actx_value.specs.declared.value.Answer.TheVariants.{Go, Raise, Finish}
use Rattle.actx_want.specs.declared.completion.Completion.{Completion}
use Rattle.actx_want.specs.declared.completion.Completion.TheVariants.{Normal, Break, Continue, Return, Throw}

-- a request with its list, or how the body ended
pub data Wants : Type 0 where
  Asks : (r : Request) → (list : List Value) → Wants
  Returns : (v : Value) → Wants
  Throws : (v : Value) → Wants

-- what is wanted after each list of answers
abbrev pub Run : Type 0
Run = List Answer → Wants

-- what is done with a completion
abbrev pub Next' : Type 0
Next' = Completion → Run

-- the present scope
abbrev pub Place : Type 0
Place = ScopeId

-- what a form does at a place, by what is done with its completion
abbrev pub Meaning : Type 0
Meaning = Place → Next' → Run

-- ---- requests

-- an answer as a completion of the request
abbrev pub completion : Answer → Completion
completion (Go v) = Normal v
completion (Raise v) = Throw v
completion (Finish v) = Return v

-- a request takes the first answer; where none is left, it is what is wanted
abbrev pub asks : Request → List Value → Next' → Run
asks r list k [] = Asks r list
asks r list k (a ∷ more) = k (completion a) more

-- a request without a list
abbrev pub ask : Request → Next' → Run
ask r k = asks r [] k

-- ---- completions

-- a value goes on, and every other completion passes (ReturnIfAbrupt, ECMA-262 §5.2.3.3)
abbrev pub on_value : (Value → Run) → Next' → Next'
on_value f k (Normal v) = f v
on_value f k (Break n) = k (Break n)
on_value f k (Continue n) = k (Continue n)
on_value f k (Return v) = k (Return v)
on_value f k (Throw v) = k (Throw v)

-- what comes next, whatever the value
abbrev pub before : Run → Next' → Next'
before r k = on_value (λ _. r) k

-- this value in place of the one that came
abbrev pub keeping : Value → Next' → Next'
keeping v k = on_value (λ _. k (Normal v)) k

-- ---- values

abbrev pub is_mark : Value → Bool
is_mark values.Undefined = false
is_mark values.Null = false
is_mark (values.Bool b) = false
is_mark (values.Num n) = false
is_mark (values.Text t) = false
is_mark (values.Object o) = false
is_mark (values.Scope s) = false
is_mark values.Mark = true

abbrev pub is_undefined : Value → Bool
is_undefined values.Undefined = true
is_undefined values.Null = false
is_undefined (values.Bool b) = false
is_undefined (values.Num n) = false
is_undefined (values.Text t) = false
is_undefined (values.Object o) = false
is_undefined (values.Scope s) = false
is_undefined values.Mark = false

-- `undefined` or `null`
abbrev pub is_nullish : Value → Bool
is_nullish values.Undefined = true
is_nullish values.Null = true
is_nullish (values.Bool b) = false
is_nullish (values.Num n) = false
is_nullish (values.Text t) = false
is_nullish (values.Object o) = false
is_nullish (values.Scope s) = false
is_nullish values.Mark = false

-- the scope that a request gave; the present one where it gave none
abbrev pub scope_or : ScopeId → Value → ScopeId
scope_or s values.Undefined = s
scope_or s values.Null = s
scope_or s (values.Bool b) = s
scope_or s (values.Num n) = s
scope_or s (values.Text t) = s
scope_or s (values.Object o) = s
scope_or s (values.Scope t) = t
scope_or s values.Mark = s

-- the place in that scope
abbrev pub within : Place → Value → Place
within p v = scope_or p v

-- ---- loops

-- A turn is what is done with the answer to its Tick: it is given what the next turn is, in each state.
abbrev pub Turn : Type 0 → Type 0
Turn S = (S → Run) → S → Next'

-- at most so many turns
unfoldable pub turns : {S : Type 0} → Turn S → ℕ → S → Run
turns turn zero s more = Asks requests.Tick []
turns turn (suc n) s more = asks requests.Tick [] (turn (turns turn n) s) more

-- Turn after turn. Each turn takes an answer, so there are no more of them than answers, and one that is asked for.
unfoldable pub loop : {S : Type 0} → Turn S → S → Run
loop turn s more = turns turn (length more) s more
