-- Worked examples of chains, calls and classes: what they want, answer by answer.
use Rattle.std.specs.Prelude.{ℕ, ◌≡◌, List, [], ◌∷◌, Some, None, true, false}
use Rattle.actx_text.specs.declared.body_id.BodyId.{BodyId}
use Rattle.actx_value.specs.declared.ids.ObjId.{ObjId}
use Rattle.actx_value.specs.declared.value.Value.{Value}
use Rattle.actx_value.specs.declared.value.Value.TheVariants as values
use Rattle.actx_value.specs.declared.value.Answer.TheVariants.{Go, Raise}
use Rattle.actx_value.specs.declared.request.Request.TheVariants as requests
use Rattle.actx_code.specs.declared.item.ClassMember.{ClassMember}
use Rattle.actx_want.specs.Run.{Asks, Returns, Throws, Place, Meaning}
use Rattle.actx_want.specs.Lists.{single, spread}
use Rattle.actx_want.specs.Members.{plain, member, suffixes, delete}
use Rattle.actx_want.specs.Calls.{call, super_call}
use Rattle.actx_want.specs.Classes.{class}
use Rattle.actx_want.specs.Statements.{init}
use Rattle.actx_want.specs.Examples.{literal, wanted}

-- ---- `base?.key(argument)` and `delete base?.key`

abbrev pub method_call : Value → Value → Value → Meaning
method_call base key argument = suffixes (literal base) (member true (plain key) ∷ call false (single (literal argument) ∷ []) ∷ [])

abbrev pub member_delete : Value → Value → Meaning
member_delete base key = delete (literal base) [] true (plain key)

pub record ChainWants (o : ObjId) (key argument f v : Value) (p : Place) : Type 0 where
  pub gets : wanted (method_call (values.Object o) key argument) p [] ≡ Asks (requests.Get (values.Object o) key) []
  -- the base is the receiver
  pub calls : wanted (method_call (values.Object o) key argument) p (Go f ∷ []) ≡ Asks (requests.Call f (values.Object o)) (argument ∷ [])
  pub ends : wanted (method_call (values.Object o) key argument) p (Go f ∷ Go v ∷ []) ≡ Returns values.Undefined
  -- after `undefined` or `null` nothing is asked
  pub stops : wanted (init 0 (method_call values.Undefined key argument)) p [] ≡ Asks (requests.Init p 0 0 values.Undefined) []
  pub stops_at_null : wanted (init 0 (method_call values.Null key argument)) p [] ≡ Asks (requests.Init p 0 0 values.Undefined) []
  pub deletes : wanted (member_delete (values.Object o) key) p [] ≡ Asks (requests.Delete (values.Object o) key) []
  pub deletes_nothing : wanted (init 0 (member_delete values.Null key)) p [] ≡ Asks (requests.Init p 0 0 (values.Bool true)) []

abbrev pub StopsAtNothing : Type 0
StopsAtNothing = (o : ObjId) (key argument f v : Value) (p : Place) → ChainWants o key argument f v p

-- ---- `f(...items, last)`

abbrev pub spread_call : Value → Value → Value → Meaning
spread_call f items last = suffixes (literal f) (call false (spread (literal items) ∷ single (literal last) ∷ []) ∷ [])

pub record SpreadWants (f items last walk : Value) (o : ObjId) (v : Value) (p : Place) : Type 0 where
  pub opens : wanted (spread_call f items last) p [] ≡ Asks (requests.Open items) []
  pub turn : wanted (spread_call f items last) p (Go walk ∷ []) ≡ Asks requests.Tick []
  pub next : wanted (spread_call f items last) p (Go walk ∷ Go v ∷ []) ≡ Asks (requests.Next walk) []
  pub next_turn : wanted (spread_call f items last) p (Go walk ∷ Go v ∷ Go (values.Object o) ∷ []) ≡ Asks requests.Tick []
  -- the mark is no item, and nothing is read after it
  pub calls : wanted (spread_call f items last) p (Go walk ∷ Go v ∷ Go (values.Object o) ∷ Go v ∷ Go values.Mark ∷ []) ≡ Asks (requests.Call f values.Undefined) (values.Object o ∷ last ∷ [])
  -- a throw of Next closes nothing
  pub fails : wanted (spread_call f items last) p (Go walk ∷ Go v ∷ Raise v ∷ []) ≡ Throws v

abbrev pub SpreadsUntilTheMark : Type 0
SpreadsUntilTheMark = (f items last walk : Value) (o : ObjId) (v : Value) (p : Place) → SpreadWants f items last walk o v p

-- ---- `super(argument)`, from so many scopes inside the one with `this`

pub record SuperWants (hops : ℕ) (argument f this v : Value) (p : Place) : Type 0 where
  pub loads : wanted (super_call hops (single (literal argument) ∷ [])) p [] ≡ Asks (requests.Load p hops 1) []
  pub calls : wanted (super_call hops (single (literal argument) ∷ [])) p (Go f ∷ []) ≡ Asks (requests.SuperCall f) (argument ∷ [])
  pub binds : wanted (super_call hops (single (literal argument) ∷ [])) p (Go f ∷ Go this ∷ []) ≡ Asks (requests.Init p hops 0 this) []
  pub ends : wanted (super_call hops (single (literal argument) ∷ [])) p (Go f ∷ Go this ∷ Go v ∷ []) ≡ Returns values.Undefined

abbrev pub SuperBindsThis : Type 0
SuperBindsThis = (hops : ℕ) (argument f this v : Value) (p : Place) → SuperWants hops argument f this v p

-- ---- `class extends parent { method() {} static other() {} }`

abbrev pub two_members : BodyId → BodyId → Value → Value → List ClassMember
two_members method other key name = record { is_static = false; key = key; body = method } ∷ record { is_static = true; key = name; body = other } ∷ []

abbrev pub small_class : BodyId → BodyId → BodyId → Value → Value → Value → Value → Meaning
small_class constructor method other parent prototype key name = class constructor (Some (literal parent)) prototype (two_members method other key name)

pub record ClassWants (c m o : BodyId) (parent prototype key name f home x y v : Value) (p : Place) : Type 0 where
  pub makes : wanted (small_class c m o parent prototype key name) p [] ≡ Asks (requests.Class c p (Some parent)) []
  pub gets : wanted (small_class c m o parent prototype key name) p (Go f ∷ []) ≡ Asks (requests.Get f prototype) []
  pub method : wanted (small_class c m o parent prototype key name) p (Go f ∷ Go home ∷ []) ≡ Asks (requests.Method m p home) []
  pub defines : wanted (small_class c m o parent prototype key name) p (Go f ∷ Go home ∷ Go x ∷ []) ≡ Asks (requests.DefineMethod home key x) []
  pub static_method : wanted (small_class c m o parent prototype key name) p (Go f ∷ Go home ∷ Go x ∷ Go v ∷ []) ≡ Asks (requests.Method o p f) []
  pub defines_static : wanted (small_class c m o parent prototype key name) p (Go f ∷ Go home ∷ Go x ∷ Go v ∷ Go y ∷ []) ≡ Asks (requests.DefineMethod f name y) []
  -- a class without members asks for no prototype
  pub empty : wanted (class c None prototype []) p (Go f ∷ []) ≡ Returns values.Undefined

abbrev pub MembersStandInOrder : Type 0
MembersStandInOrder = (c m o : BodyId) (parent prototype key name f home x y v : Value) (p : Place) → ClassWants c m o parent prototype key name f home x y v p
