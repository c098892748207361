-- What a part of a tree becomes, by what is around it and what was numbered before it; and what is numbered on the way:
-- bodies and literal texts.
use Rattle.std.specs.Prelude.{ℕ, suc, ◌+◌, Bool, true, false, List, [], ◌∷◌, ◌++◌, length, slice_set, Option, Some, None, if◌then◌else◌}
use Rattle.std.specs.List.{list_any, position_or_len}
use Rattle.actx_text.specs.declared.units.Units.{Units}
use Rattle.actx_text.specs.declared.body_id.BodyId.{BodyId}
use Rattle.actx_tree.specs.declared.function.Flow.{Flow}
use Rattle.actx_tree.specs.declared.function.Flow.TheVariants as flow
use Rattle.actx_value.specs.Texts.{texts_eq}
use Rattle.actx_value.specs.declared.value.Value.{Value}
use Rattle.actx_value.specs.declared.value.Value.TheVariants as values
use Rattle.actx_code.specs.declared.body.BodyKind.{BodyKind}
use Rattle.actx_code.specs.declared.body.BodyKind.TheVariants as kinds
use Rattle.actx_scope_rules.specs.Scopes.{Scope}
use Rattle.actx_core.specs.declared.meaning.Meaning.{Meaning}
use Rattle.actx_core.specs.declared.core_form.Core.{Core}
use Rattle.actx_core.specs.declared.core_form.Core.TheVariants as forms

-- ---- the code of a run, as contracts speak of it

-- a body, field by field as `Body`
pub record CoreBody : Type 0 where
  pub kind : BodyKind
  pub flow : Flow
  pub name : ℕ
  pub hidden : Bool
  pub cells : ℕ
  pub form : Core

-- the bodies, the literal texts, and the bodies of the bundled functions in source order
pub record CoreCode : Type 0 where
  pub bodies : List CoreBody
  pub literals : List Units
  pub bundled : List BodyId

-- ---- making

-- What is numbered so far. `uses` are what names mean: of those that were met, where scopes say it, and of those that are to
-- come, where it is given.
pub record Numbered : Type 0 where
  pub bodies : List CoreBody
  pub literals : List Units
  pub uses : List (Option Meaning)

-- the scopes around a part, from the inside out, and how many scopes out the one with `this` is, if there is one
pub record Around : Type 0 where
  pub scopes : List Scope
  pub this : Option ℕ

pub record Made (A : Type 0) : Type 0 where
  pub value : A
  pub after : Numbered

abbrev pub Making : Type 0 → Type 0
Making A = Around → Numbered → Made A

-- what needs nothing made
abbrev pub just : {A : Type 0} → A → Making A
just x a s = record { value = x; after = s }

-- a part, and then what its value leads to
abbrev pub and_then : {A R : Type 0} → Making A → (A → Making R) → Making R
and_then x f a s = let i = x a s in f i.value a i.after

-- of parts that are made one after another
abbrev pub of1 : {A R : Type 0} → (A → R) → Making A → Making R
of1 f x = and_then x (λ i. just (f i))

abbrev pub of2 : {A B R : Type 0} → (A → B → R) → Making A → Making B → Making R
of2 f x y = and_then x (λ i. of1 (f i) y)

abbrev pub of3 : {A B C R : Type 0} → (A → B → C → R) → Making A → Making B → Making C → Making R
of3 f x y z = and_then x (λ i. of2 (f i) y z)

abbrev pub of4 : {A B C D R : Type 0} → (A → B → C → D → R) → Making A → Making B → Making C → Making D → Making R
of4 f x y z w = and_then x (λ i. of3 (f i) y z w)

-- all of a list, first to last
unfoldable pub all : {A : Type 0} → List (Making A) → Making (List A)
all [] = just []
all (x ∷ xs) = of2 (λ y ys. y ∷ ys) x (all xs)

abbrev pub maybe : {A : Type 0} → Option (Making A) → Making (Option A)
maybe None = just None
maybe (Some x) = of1 (λ y. Some y) x

-- ---- what the source leaves out

abbrev pub undefined : Core
undefined = forms.Literal values.Undefined

abbrev pub or_undefined : Option (Making Core) → Making Core
or_undefined None = just undefined
or_undefined (Some x) = x

abbrev pub or_true : Option (Making Core) → Making Core
or_true None = just (forms.Literal (values.Bool true))
or_true (Some x) = x

-- ---- texts

-- the place of a text among these; how many these are, where it isn't among them
abbrev pub place_of : Units → List Units → ℕ
place_of text xs = position_or_len (texts_eq text) xs

-- with a text, which goes last where it is new
abbrev pub with_text : Units → List Units → List Units
with_text text xs = if list_any (texts_eq text) xs then xs else xs ++ text ∷ []

-- the number of a text: 0 for the empty one, which is no literal, and one more than its place for a literal
abbrev pub text_number : Units → Making ℕ
text_number [] a s = record { value = 0; after = s }
text_number (u ∷ us) a s = record { value = place_of (u ∷ us) s.literals + 1; after = record s { literals = with_text (u ∷ us) s.literals } }

abbrev pub text_of : ℕ → Value
text_of n = values.Text (record { 0 = n })

abbrev pub text_value : Units → Making Value
text_value text = of1 text_of (text_number text)

-- ---- bodies

abbrev pub body_id : ℕ → BodyId
body_id n = record { 0 = n }

-- what holds a body's number until it is made
abbrev pub unmade : CoreBody
unmade = record { kind = kinds.File; flow = flow.Plain; name = 0; hidden = false; cells = 0; form = undefined }

-- A body takes its number where it begins: before the bodies in it.
abbrev pub numbered : {A : Type 0} → (A → CoreBody) → Making A → Making (ℕ × A)
numbered f x a s =
    let i = x a (record s { bodies = s.bodies ++ unmade ∷ [] }) in
    record { value = (length s.bodies, i.value); after = record i.after { bodies = slice_set i.after.bodies (length s.bodies) (f i.value) } }

abbrev pub body_made : Making CoreBody → Making BodyId
body_made x = of1 (λ y. body_id y.0) (numbered (λ b. b) x)
