-- Walks over arrays, texts, Maps and Sets: Open, Next and Close.
use Rattle.std.specs.Prelude.{ℕ, suc, ◌+◌, nat_lt, ◌&&◌, List, [], ◌∷◌, drop, Option, Some, None, unwrap_or, if◌then◌else◌}
use Rattle.actx_text.specs.Utf16.{is_leading, is_trailing}
use Rattle.actx_value.specs.Texts.{text_at, with_text, added_number}
use Rattle.actx_value.specs.declared.ids.ObjId.{ObjId}
use Rattle.actx_value.specs.declared.value.Key.TheVariants.{Index}
use Rattle.actx_value.specs.declared.value.Value.{Value}
use Rattle.actx_value.specs.declared.value.Value.TheVariants.{Undefined, Text, Object, Mark}
use Rattle.actx_value.specs.declared.error_kind.ErrorKind.TheVariants.{TypeError}
use Rattle.actx_objects.specs.declared.kind.Kind.{Kind}
use Rattle.actx_objects.specs.declared.kind.Kind.TheVariants as kinds
use Rattle.actx_objects.specs.Objects.{kind_of, size_of, own_of, entry_from, made}
use Rattle.actx_request.specs.declared.home.Home.{Home}
use Rattle.actx_request.specs.Outcomes.{Stores, with_objects, with_texts}
use Rattle.actx_request.specs.Lists.{next_object, array_of}
use Rattle.actx_world.specs.Setup.{Bodies, Setup}
use Rattle.actx_world.specs.Parts.{Part, Walk, part_at, with_part}
use Rattle.actx_world.specs.State.{Activation, State, with_stores, with_parts}
use Rattle.actx_world.specs.Moves.{Next, Unbuilt, Asked, gives_to, throws_to}

-- ---- what can be walked

pub data Walked : Type 0 where
  Walkable : Walked
  -- a generator, whose rows come later
  LaterWalk : Walked
  NotIterable : Walked

abbrev pub walked_kind : Kind → Walked
walked_kind kinds.Array = Walkable
walked_kind kinds.Map = Walkable
walked_kind kinds.Set = Walkable
walked_kind kinds.Generator = LaterWalk
walked_kind kind = NotIterable

abbrev pub walked_as : Stores → Value → Walked
walked_as s (Text t) = Walkable
walked_as s (Object o) = walked_kind (kind_of s.objects o)
walked_as s v = NotIterable

-- ---- the items

-- the item at a place, with the next place and the stores after it; or none is left
pub data Stepped : Type 0 where
  Item : (v : Value) → (place : ℕ) → (s : Stores) → Stepped
  NoneLeft : Stepped

-- of an array the element at the index (%ArrayIteratorPrototype%.next, ECMA-262 §23.1.5.2.1)
abbrev pub element_step : Stores → ObjId → ℕ → Stepped
element_step s o place =
    if nat_lt place (size_of s.objects o)
    then Item (unwrap_or (own_of s.texts.texts s.objects o (Index place)) Undefined) (suc place) s
    else NoneLeft

-- a text that is new
abbrev pub text_item : List ℕ → ℕ → Stores → Stepped
text_item text place s = Item (Text (record { 0 = added_number s.texts.texts text })) place (with_texts (with_text s.texts.texts text) s)

-- of a text the code point at the unit, a pair of surrogates whole (CodePointAt §11.1.4, §22.1.5.1)
abbrev pub unit_step : Stores → ℕ → List ℕ → Stepped
unit_step s place [] = NoneLeft
unit_step s place (u ∷ []) = text_item (u ∷ []) (suc place) s
unit_step s place (u ∷ v ∷ rest) =
    if is_leading u && is_trailing v then text_item (u ∷ v ∷ []) (place + 2) s
    else text_item (u ∷ []) (suc place) s

-- of a Map a new array of the key and the value of the next entry (§24.1.5.1), of a Set its next value (§24.2.6.1)
abbrev pub with_place : ℕ → Stores → Stores → Stepped
with_place place before after = Item (Object (next_object before.objects)) place after

abbrev pub entry_step : Home → Stores → Option (ℕ × Value × Value) → Stepped
entry_step home s None = NoneLeft
entry_step home s (Some e) = with_place (suc e.0) s (array_of home (e.1 ∷ e.2 ∷ []) s).stores

abbrev pub value_step : Stores → Option (ℕ × Value × Value) → Stepped
value_step s None = NoneLeft
value_step s (Some e) = Item e.1 (suc e.0) s

abbrev pub object_step : Home → Stores → ObjId → ℕ → Kind → Stepped
object_step home s o place kinds.Array = element_step s o place
object_step home s o place kinds.Map = entry_step home s (entry_from s.objects o place)
object_step home s o place kinds.Set = value_step s (entry_from s.objects o place)
object_step home s o place kind = NoneLeft

abbrev pub walk_step : Home → Stores → Value → ℕ → Stepped
walk_step home s (Object o) place = object_step home s o place (kind_of s.objects o)
walk_step home s (Text t) place = unit_step s place (drop place (text_at s.texts.texts t.0))
walk_step home s v place = NoneLeft

-- ---- rows

-- the part of what a walk is
abbrev pub walk_part : List Part → Value → Part
walk_part parts (Object o) = part_at parts o
walk_part parts v = Part.Nothing

abbrev pub with_walk : Value → Value → ℕ → List Part → List Part
with_walk (Object o) of place parts = with_part o (Walk of place) parts
with_walk v of place parts = parts

module _ {B : Type 0} (bodies : Bodies B) (setup : Setup) where
  -- Open (GetIterator, §7.4.4): a new object without a prototype, at the first place
  abbrev pub opened_walk : Value → State B → State B
  opened_walk v s =
      with_parts (with_part (next_object s.stores.objects) (Walk v 0) s.parts)
      (with_stores (with_objects (made s.stores.objects kinds.Iterator None) s.stores) s)

  abbrev pub open_as : Activation B → Value → Walked → State B → Next B
  open_as a v Walkable s = gives_to bodies (Asked a) (Object (next_object s.stores.objects)) (opened_walk v s)
  open_as a v LaterWalk s = Unbuilt
  open_as a v NotIterable s = throws_to bodies setup.builtins (Asked a) (TypeError 2) s

  abbrev pub row_open : Activation B → Value → State B → Next B
  row_open a v s = open_as a v (walked_as s.stores v) s

  -- Next (IteratorStepValue, §7.4.10): the item, or the mark
  abbrev pub row_stepped : Activation B → Value → Value → Stepped → State B → Next B
  row_stepped a walk of (Item v place stores) s = gives_to bodies (Asked a) v (with_parts (with_walk walk of place s.parts) (with_stores stores s))
  row_stepped a walk of NoneLeft s = gives_to bodies (Asked a) Mark s

  abbrev pub next_of_part : Activation B → Value → Part → State B → Next B
  next_of_part a walk (Walk of place) s = row_stepped a walk of (walk_step setup.builtins.home s.stores of place) s
  next_of_part a walk (Part.Coroutine coroutine) s = Unbuilt
  next_of_part a walk part s = gives_to bodies (Asked a) Mark s

  abbrev pub row_next : Activation B → Value → State B → Next B
  row_next a walk s = next_of_part a walk (walk_part s.parts walk) s

  -- Close (IteratorClose, §7.4.11): only a generator does something
  abbrev pub close_of_part : Activation B → Part → State B → Next B
  close_of_part a (Part.Coroutine coroutine) s = Unbuilt
  close_of_part a part s = gives_to bodies (Asked a) Undefined s

  abbrev pub row_close_walk : Activation B → Value → State B → Next B
  row_close_walk a walk s = close_of_part a (walk_part s.parts walk) s
