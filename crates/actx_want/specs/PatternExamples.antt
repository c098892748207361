-- Worked examples of patterns: what they want, answer by answer.
use Rattle.std.specs.Prelude.{◌≡◌, [], ◌∷◌, Some, None}
use Rattle.actx_value.specs.declared.ids.ObjId.{ObjId}
use Rattle.actx_value.specs.declared.value.Value.{Value}
use Rattle.actx_value.specs.declared.value.Value.TheVariants as values
use Rattle.actx_value.specs.declared.value.Answer.TheVariants.{Go, Raise}
use Rattle.actx_value.specs.declared.request.Request.TheVariants as requests
use Rattle.actx_want.specs.Run.{Asks, Returns, Throws, Place, Meaning}
use Rattle.actx_want.specs.Functions.{Binding}
use Rattle.actx_want.specs.Patterns.{slot, element, elements, properties, bind}
use Rattle.actx_want.specs.Statements.{thrown}
use Rattle.actx_want.specs.Examples.{literal, wanted}

-- ---- `const [a = default, b] = value`

abbrev pub two_elements : Meaning → Binding
two_elements default = elements (element (slot 0) (Some default) ∷ slot 1 ∷ []) None

abbrev pub declaration : Meaning → Value → Meaning
declaration default value = bind (two_elements default) (literal value)

pub record ElementWants (d value walk v w : Value) (o : ObjId) (p : Place) : Type 0 where
  pub opens : wanted (declaration (literal d) value) p [] ≡ Asks (requests.Open value) []
  pub next : wanted (declaration (literal d) value) p (Go walk ∷ []) ≡ Asks (requests.Next walk) []
  pub given : wanted (declaration (literal d) value) p (Go walk ∷ Go (values.Object o) ∷ []) ≡ Asks (requests.Init p 0 0 (values.Object o)) []
  -- the default is for `undefined` alone
  pub null_given : wanted (declaration (literal d) value) p (Go walk ∷ Go values.Null ∷ []) ≡ Asks (requests.Init p 0 0 values.Null) []
  pub default : wanted (declaration (literal d) value) p (Go walk ∷ Go values.Undefined ∷ []) ≡ Asks (requests.Init p 0 0 d) []
  pub next_element : wanted (declaration (literal d) value) p (Go walk ∷ Go values.Null ∷ Go v ∷ []) ≡ Asks (requests.Next walk) []
  -- the end wasn't met
  pub closes : wanted (declaration (literal d) value) p (Go walk ∷ Go values.Null ∷ Go v ∷ Go (values.Object o) ∷ Go v ∷ []) ≡ Asks (requests.Close walk) []
  pub ends : wanted (declaration (literal d) value) p (Go walk ∷ Go values.Null ∷ Go v ∷ Go (values.Object o) ∷ Go v ∷ Go w ∷ []) ≡ Returns values.Undefined
  -- the end was met: no further Next, and no Close
  pub past_end : wanted (declaration (literal d) value) p (Go walk ∷ Go values.Mark ∷ []) ≡ Asks (requests.Init p 0 0 d) []
  pub past_end_too : wanted (declaration (literal d) value) p (Go walk ∷ Go values.Mark ∷ Go v ∷ []) ≡ Asks (requests.Init p 0 1 values.Undefined) []
  pub ends_there : wanted (declaration (literal d) value) p (Go walk ∷ Go values.Mark ∷ Go v ∷ Go w ∷ []) ≡ Returns values.Undefined
  -- a default that throws closes the walk; a throw of Next, and one past the end, closes nothing
  pub leaves : wanted (declaration (thrown (literal d)) value) p (Go walk ∷ Go values.Undefined ∷ []) ≡ Asks (requests.Close walk) []
  pub left : wanted (declaration (thrown (literal d)) value) p (Go walk ∷ Go values.Undefined ∷ Raise w ∷ []) ≡ Throws d
  pub fails : wanted (declaration (literal d) value) p (Go walk ∷ Raise w ∷ []) ≡ Throws w
  pub fails_past_end : wanted (declaration (thrown (literal d)) value) p (Go walk ∷ Go values.Mark ∷ []) ≡ Throws d

abbrev pub ClosesOpenWalks : Type 0
ClosesOpenWalks = (d value walk v w : Value) (o : ObjId) (p : Place) → ElementWants d value walk v w o p

-- ---- `const [a, ...rest] = value`

abbrev pub rest_declaration : Value → Meaning
rest_declaration value = bind (elements (slot 0 ∷ []) (Some 1)) (literal value)

pub record RestWants (value walk v array : Value) (o : ObjId) (p : Place) : Type 0 where
  pub turn : wanted (rest_declaration value) p (Go walk ∷ Go values.Null ∷ Go v ∷ []) ≡ Asks requests.Tick []
  pub next : wanted (rest_declaration value) p (Go walk ∷ Go values.Null ∷ Go v ∷ Go v ∷ []) ≡ Asks (requests.Next walk) []
  pub collects : wanted (rest_declaration value) p (Go walk ∷ Go values.Null ∷ Go v ∷ Go v ∷ Go (values.Object o) ∷ Go v ∷ Go values.Mark ∷ []) ≡ Asks requests.Array (values.Object o ∷ [])
  pub binds : wanted (rest_declaration value) p (Go walk ∷ Go values.Null ∷ Go v ∷ Go v ∷ Go values.Mark ∷ Go array ∷ []) ≡ Asks (requests.Init p 0 1 array) []
  -- the end was met before: an empty array
  pub nothing_left : wanted (rest_declaration value) p (Go walk ∷ Go values.Mark ∷ Go v ∷ []) ≡ Asks requests.Array []

abbrev pub CollectsTheRest : Type 0
CollectsTheRest = (value walk v array : Value) (o : ObjId) (p : Place) → RestWants value walk v array o p

-- ---- `const { key: a = default, ...rest } = value`

abbrev pub property_declaration : Value → Value → Value → Meaning
property_declaration key d value = bind (properties (record { key = key; element = element (slot 0) (Some (literal d)) } ∷ []) (Some 1)) (literal value)

pub record PropertyWants (key d value v rest : Value) (p : Place) : Type 0 where
  pub gets : wanted (property_declaration key d value) p [] ≡ Asks (requests.Get value key) []
  pub default : wanted (property_declaration key d value) p (Go values.Undefined ∷ []) ≡ Asks (requests.Init p 0 0 d) []
  pub null_given : wanted (property_declaration key d value) p (Go values.Null ∷ []) ≡ Asks (requests.Init p 0 0 values.Null) []
  pub collects : wanted (property_declaration key d value) p (Go values.Null ∷ Go v ∷ []) ≡ Asks (requests.Rest value) (key ∷ [])
  pub binds : wanted (property_declaration key d value) p (Go values.Null ∷ Go v ∷ Go rest ∷ []) ≡ Asks (requests.Init p 0 1 rest) []

abbrev pub LeavesKeysOut : Type 0
LeavesKeysOut = (key d value v rest : Value) (p : Place) → PropertyWants key d value v rest p
