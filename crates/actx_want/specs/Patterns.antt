-- Patterns (ECMA-262 §8.6.2, §8.6.3, §14.3.3).
use Rattle.std.specs.Prelude.{ℕ, List, [], ◌∷◌, if◌then◌else◌, Option, Some, None}
use Rattle.actx_value.specs.declared.value.Value.{Value}
use Rattle.actx_value.specs.declared.value.Value.TheVariants as values
use Rattle.actx_value.specs.declared.request.Request.TheVariants as requests
use Rattle.actx_want.specs.declared.completion.Completion.{Completion}
use Rattle.actx_want.specs.declared.completion.Completion.TheVariants.{Normal, Break, Continue, Return, Throw}
use Rattle.actx_want.specs.Run.{Run, Next', Place, Meaning, ask, asks, on_value, before, is_mark, is_undefined}
use Rattle.actx_want.specs.Lists.{WithList, collected}
use Rattle.actx_want.specs.Functions.{Binding, binding}

-- a name: a cell of the present scope (InitializeReferencedBinding, §6.2.5.8)
abbrev pub slot : ℕ → Binding
slot i p v k = ask (requests.Init p 0 i v) k

-- ---- defaults (§8.6.3, KeyedBindingInitialization §8.6.4)

-- a default takes the place of `undefined` alone
abbrev pub element : Binding → Option Meaning → Binding
element target None p v k = target p v k
element target (Some default) p v k = if is_undefined v then default p (binding target p k) else target p v k

-- ---- early ends of walks (IteratorClose, §7.4.11)

-- The walk is closed, and then this completion goes on. A throw wins over what closing answers; any other completion
-- yields to a throw of closing.
abbrev pub closed : Completion → Next' → Next'
closed (Throw v) k = λ _. k (Throw v)
closed (Normal v) k = on_value (λ _. k (Normal v)) k
closed (Break n) k = on_value (λ _. k (Break n)) k
closed (Continue n) k = on_value (λ _. k (Continue n)) k
closed (Return v) k = on_value (λ _. k (Return v)) k

abbrev pub closing : Value → Completion → Next' → Run
closing walk c k = ask (requests.Close walk) (closed c k)

-- what comes next after a value; any other completion closes the walk
abbrev pub or_close : Value → Run → Next' → Next'
or_close walk next k (Normal v) = next
or_close walk next k (Break n) = closing walk (Break n) k
or_close walk next k (Continue n) = closing walk (Continue n) k
or_close walk next k (Return v) = closing walk (Return v) k
or_close walk next k (Throw v) = closing walk (Throw v) k

-- ---- object patterns (§8.6.2, §14.3.3.1)

-- a property: its key, and what its value is bound to
pub record PropertyBinding : Type 0 where
  pub key : Value
  pub element : Binding

-- the keys, first to last
unfoldable pub keys_of : List PropertyBinding → List Value
keys_of [] = []
keys_of (q ∷ qs) = q.key ∷ keys_of qs

-- the values of the properties, one after another, and then what comes next
unfoldable pub properties_of : List PropertyBinding → Place → Value → Run → Next' → Run
properties_of [] p v next k = next
properties_of (q ∷ qs) p v next k = ask (requests.Get v q.key) (binding (λ q' w l. q.element q' w (before (properties_of qs p v next l) l)) p k)

-- the name after `...` (RestBindingInitialization, §14.3.3.2)
abbrev pub rest_of : Option ℕ → List Value → Place → Value → Next' → Run
rest_of None keys p v k = k (Normal values.Undefined)
rest_of (Some i) keys p v k = asks (requests.Rest v) keys (binding (slot i) p k)

abbrev pub properties : List PropertyBinding → Option ℕ → Binding
properties qs rest p v k = properties_of qs p v (rest_of rest (keys_of qs) p v k) k

-- ---- array patterns (§8.6.2, §8.6.3)

-- the name after `...`: all items that are left, as an array
abbrev pub rest_array : ℕ → Place → Next' → WithList
rest_array i p k list = asks requests.Array list (binding (slot i) p k)

-- after the last element, where the end was met: nothing is closed
abbrev pub rest_past_end : Option ℕ → Place → Next' → Run
rest_past_end None p k = k (Normal values.Undefined)
rest_past_end (Some i) p k = rest_array i p k []

-- elements past the end of the walk are bound to `undefined`
unfoldable pub past_end : List Binding → Option ℕ → Place → Next' → Run
past_end [] rest p k = rest_past_end rest p k
past_end (e ∷ es) rest p k = e p values.Undefined (before (past_end es rest p k) k)

-- after the last element, where the end wasn't met
abbrev pub rest_of_walk : Value → Option ℕ → Place → Next' → Run
rest_of_walk walk None p k = closing walk (Normal values.Undefined) k
rest_of_walk walk (Some i) p k = collected walk (rest_array i p k) k []

-- an item came, or the mark. A default or a target that ends early closes the walk; a throw of Next closes nothing.
abbrev pub item_bound : Value → Binding → Run → Run → Place → Next' → Next'
item_bound walk e next past p k = on_value (λ v. if is_mark v then e p values.Undefined (before past k) else e p v (or_close walk next k)) k

unfoldable pub items_of : List Binding → Option ℕ → Value → Place → Next' → Run
items_of [] rest walk p k = rest_of_walk walk rest p k
items_of (e ∷ es) rest walk p k = ask (requests.Next walk) (item_bound walk e (items_of es rest walk p k) (past_end es rest p k) p k)

-- the walk came
abbrev pub walking : List Binding → Option ℕ → Place → Next' → Next'
walking es rest p k = on_value (λ walk. items_of es rest walk p k) k

abbrev pub elements : List Binding → Option ℕ → Binding
elements es rest p v k = ask (requests.Open v) (walking es rest p k)

-- ---- declarations

-- a declaration with a pattern (§14.3.1.2)
abbrev pub bind : Binding → Meaning → Meaning
bind target e p k = e p (binding target p k)
