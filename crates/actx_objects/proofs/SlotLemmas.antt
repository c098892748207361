-- Slots as a list of entries.
use Rattle.std.proofs.Common.{◌≡◌, ◌≢◌, ℕ, zero, suc, ◌+◌, ◌<◌, cond, Bool, true, false, List, [], ◌∷◌, ◌++◌, length, slice_get, slice_set, Option, Some, None, refl, sym, ap, ◌∙◌, arith}
use Rattle.std.proofs.lemmas.Option.{none-some, slice_get_within}
use Rattle.std.specs.Option.{option_map_or}
use Rattle.actx_value.specs.declared.value.Value.{Value}
use Rattle.actx_objects.specs.declared.slot.Slot.{Slot}
use Rattle.actx_objects.specs.declared.entries.Placed.{Placed}
use Rattle.actx_objects.specs.Keys.{value_eq}
use Rattle.actx_objects.specs.Pairs.{at_key, with_key, without_key}
use Rattle.actx_objects.specs.Slots.{entry_at, standing_from, IsFound}
use Rattle.actx_objects.proofs.ValueLemmas.{value_is, value_self}

abbrev pub Entry : Type 0
Entry = Value × Placed

-- no entry has this key
abbrev pub Misses : Value → List Entry → Type 0
Misses key [] = Unit {0}
Misses key (e ∷ es) = (value_eq key e.0 ≡ false) × Misses key es

-- look-ups past entries that miss the key
at_past : (key : Value) (front rest : List Entry) → Misses key front → at_key value_eq key (front ++ rest) ≡ at_key value_eq key rest
at_past key [] rest h = refl
at_past key (e ∷ es) rest h = ap (λ b. cond b (Some e.1) (at_key value_eq key (es ++ rest))) h.0 ∙ at_past key es rest h.1

with_past : (key : Value) (x : Placed) (front rest : List Entry) → Misses key front → with_key value_eq key x (front ++ rest) ≡ front ++ with_key value_eq key x rest
with_past key x [] rest h = refl
with_past key x (e ∷ es) rest h = ap (λ b. cond b ((e.0, x) ∷ (es ++ rest)) (e ∷ with_key value_eq key x (es ++ rest))) h.0 ∙ ap (λ l. e ∷ l) (with_past key x es rest h.1)

without_past : (key : Value) (front rest : List Entry) → Misses key front → without_key value_eq key (front ++ rest) ≡ front ++ without_key value_eq key rest
without_past key [] rest h = refl
without_past key (e ∷ es) rest h = ap (λ b. cond b (es ++ rest) (e ∷ without_key value_eq key (es ++ rest))) h.0 ∙ ap (λ l. e ∷ l) (without_past key es rest h.1)

-- the entries before and after a slot that holds one, and what a write to the slot gives
pub record IsSplit (key : Value) (q j : ℕ) (slots : List (Option Slot)) (s : Slot) : Type 0 where
  pub front : List Entry
  pub back : List Entry
  pub is : standing_from q slots ≡ front ++ entry_at (q + j) s ∷ back
  pub written : (t : Slot) → standing_from q (slice_set slots j (Some t)) ≡ front ++ entry_at (q + j) t ∷ back
  pub emptied : standing_from q (slice_set slots j None) ≡ front ++ back
  pub misses : ((i : ℕ) (t : Slot) → i < j → slice_get slots i ≡ Some (Some t) → value_eq key t.key ≡ false) → Misses key front

split_at : (key : Value) (q j : ℕ) (slots : List (Option Slot)) (s : Slot) → slice_get slots j ≡ Some (Some s) → IsSplit key q j slots s
split_at key q j [] s h = absurd (none-some (Some s) h)
split_at key q zero (None ∷ slots) s h = absurd (none-some s (ap (λ o. option_map_or (λ z. z) o None) h))
split_at key q zero (Some t ∷ slots) s h =
    let same : t ≡ s = ap (λ o. option_map_or (λ z. option_map_or (λ y. y) z s) o s) h in
    let here : q ≡ q + 0 = omega arith in
    record {
      front = [];
      back = standing_from (suc q) slots;
      is = ap (λ z. entry_at q z ∷ standing_from (suc q) slots) same ∙ ap (λ p. entry_at p s ∷ standing_from (suc q) slots) here;
      written = λ t. ap (λ p. entry_at p t ∷ standing_from (suc q) slots) here;
      emptied = refl;
      misses = λ h. tt;
    }
split_at key q (suc j) (None ∷ slots) s h =
    let rest = split_at key (suc q) j slots s h in
    let here : suc q + j ≡ q + suc j = omega arith in
    record {
      front = rest.front;
      back = rest.back;
      is = rest.is ∙ ap (λ p. rest.front ++ entry_at p s ∷ rest.back) here;
      written = λ t. rest.written t ∙ ap (λ p. rest.front ++ entry_at p t ∷ rest.back) here;
      emptied = rest.emptied;
      misses = λ m. rest.misses (λ i t less e. m (suc i) t (omega arith) e);
    }
split_at key q (suc j) (Some u ∷ slots) s h =
    let rest = split_at key (suc q) j slots s h in
    let here : suc q + j ≡ q + suc j = omega arith in
    record {
      front = entry_at q u ∷ rest.front;
      back = rest.back;
      is = ap (λ l. entry_at q u ∷ l) (rest.is ∙ ap (λ p. rest.front ++ entry_at p s ∷ rest.back) here);
      written = λ t. ap (λ l. entry_at q u ∷ l) (rest.written t ∙ ap (λ p. rest.front ++ entry_at p t ∷ rest.back) here);
      emptied = ap (λ l. entry_at q u ∷ l) rest.emptied;
      misses = λ m. (m 0 u (omega arith) refl, rest.misses (λ i t less e. m (suc i) t (omega arith) e));
    }

-- slots none of which holds the key
missed_by : (key : Value) (q : ℕ) (slots : List (Option Slot)) → ((i : ℕ) (t : Slot) → slice_get slots i ≡ Some (Some t) → value_eq key t.key ≡ false) → Misses key (standing_from q slots)
missed_by key q [] m = tt
missed_by key q (None ∷ slots) m = missed_by key (suc q) slots (λ i t e. m (suc i) t e)
missed_by key q (Some u ∷ slots) m = (m 0 u refl, missed_by key (suc q) slots (λ i t e. m (suc i) t e))

-- a slot more
pub pushed_slot : (q : ℕ) (slots : List (Option Slot)) (s : Slot) → standing_from q (slots ++ Some s ∷ []) ≡ standing_from q slots ++ entry_at (q + length slots) s ∷ []
pushed_slot q [] s = let here : q ≡ q + 0 = omega arith in ap (λ p. entry_at p s ∷ []) here
pushed_slot q (None ∷ slots) s = let here : suc q + length slots ≡ q + suc (length slots) = omega arith in pushed_slot (suc q) slots s ∙ ap (λ p. standing_from (suc q) slots ++ entry_at p s ∷ []) here
pushed_slot q (Some u ∷ slots) s = let here : suc q + length slots ≡ q + suc (length slots) = omega arith in ap (λ l. entry_at q u ∷ l) (pushed_slot (suc q) slots s ∙ ap (λ p. standing_from (suc q) slots ++ entry_at p s ∷ []) here)

nil_end : (es : List Entry) → es ≡ es ++ []
nil_end [] = refl
nil_end (e ∷ es) = ap (λ l. e ∷ l) (nil_end es)

pub some_same : {A : Type 0} (a b : A) → Some a ≡ Some b → a ≡ b
some_same a b h = ap (λ o. option_map_or (λ z. z) o a) h

module _ (find : Value → Option ℕ) (slots : List (Option Slot)) (count : ℕ) (found : IsFound find slots count) (key : Value) where
  -- the key is in no slot but its own
  alone : (p : ℕ) → find key ≡ Some p → (i : ℕ) (t : Slot) → i ≢ p → slice_get slots i ≡ Some (Some t) → value_eq key t.key ≡ false
  alone p h i t other e = by (value_eq key t.key) refl
    where
      by : (b : Bool) → value_eq key t.key ≡ b → b ≡ false
      by true same = absurd (other (some_same i p (sym (found.covered i t e) ∙ ap find (sym (value_is key t.key same)) ∙ h)))
      by false same = refl

  -- a key that isn't found is in no slot
  absent : find key ≡ None → (i : ℕ) (t : Slot) → slice_get slots i ≡ Some (Some t) → value_eq key t.key ≡ false
  absent h i t e = by (value_eq key t.key) refl
    where
      by : (b : Bool) → value_eq key t.key ≡ b → b ≡ false
      by true same = absurd (none-some i (sym h ∙ ap find (value_is key t.key same) ∙ found.covered i t e))
      by false same = refl

  -- what a key that isn't found says of the entries
  pub not_there : find key ≡ None → at_key value_eq key (standing_from 0 slots) ≡ None
  not_there h = ap (at_key value_eq key) (nil_end (standing_from 0 slots)) ∙ at_past key (standing_from 0 slots) [] (missed_by key 0 slots (absent h))

  pub not_there_with : (x : Placed) → find key ≡ None → with_key value_eq key x (standing_from 0 slots) ≡ standing_from 0 slots ++ (key, x) ∷ []
  not_there_with x h = ap (with_key value_eq key x) (nil_end (standing_from 0 slots)) ∙ with_past key x (standing_from 0 slots) [] (missed_by key 0 slots (absent h))

  pub not_there_without : find key ≡ None → without_key value_eq key (standing_from 0 slots) ≡ standing_from 0 slots
  not_there_without h = ap (without_key value_eq key) (nil_end (standing_from 0 slots)) ∙ without_past key (standing_from 0 slots) [] (missed_by key 0 slots (absent h)) ∙ sym (nil_end (standing_from 0 slots))

  module _ (p : ℕ) (h : find key ≡ Some p) where
    -- its slot is within
    pub place_within : p < length slots
    place_within = let own = found.held key p h in slice_get_within slots p (Some own.0) own.1

    front_misses : (s : Slot) (w : IsSplit key 0 p slots s) → Misses key w.front
    front_misses s w = w.misses (λ i t less e. alone p h i t (λ same. less_off i less same) e)
      where
        less_off : (i : ℕ) → i < p → i ≡ p → ⊥
        less_off i less same = omega arith

    -- what stands under the key
    pub there : (s : Slot) → slice_get slots p ≡ Some (Some s) → at_key value_eq key (standing_from 0 slots) ≡ Some (record { place = p; value = s.value })
    there s e =
        let w = split_at key 0 p slots s e in
        let own = found.held key p h in
        let same : s.key ≡ key = ap (λ o. option_map_or (λ z. option_map_or (λ (y : Slot). y.key) z key) o key) (sym e ∙ own.1) ∙ own.2 in
        let here : 0 + p ≡ p = omega arith in
        ap (at_key value_eq key) w.is ∙ at_past key w.front (entry_at (0 + p) s ∷ w.back) (front_misses s w)
        ∙ ap (λ b. cond b (Some (entry_at (0 + p) s).1) (at_key value_eq key w.back)) (ap (value_eq key) same ∙ value_self key)
        ∙ ap (λ q. Some (entry_at q s).1) here

    pub there_with : (v : Value) (s : Slot) → slice_get slots p ≡ Some (Some s) → standing_from 0 (slice_set slots p (Some (record { key = key; value = v }))) ≡ with_key value_eq key (record { place = p; value = v }) (standing_from 0 slots)
    there_with v s e =
        let w = split_at key 0 p slots s e in
        let own = found.held key p h in
        let same : s.key ≡ key = ap (λ o. option_map_or (λ z. option_map_or (λ (y : Slot). y.key) z key) o key) (sym e ∙ own.1) ∙ own.2 in
        let here : 0 + p ≡ p = omega arith in
        let x : Placed = record { place = p; value = v } in
        w.written (record { key = key; value = v })
        ∙ ap (λ q. let z : Placed = record { place = q; value = v } in w.front ++ (key, z) ∷ w.back) here
        ∙ sym (ap (with_key value_eq key x) w.is ∙ with_past key x w.front (entry_at (0 + p) s ∷ w.back) (front_misses s w)
        ∙ ap (λ b. w.front ++ cond b ((s.key, x) ∷ w.back) (entry_at (0 + p) s ∷ with_key value_eq key x w.back)) (ap (value_eq key) same ∙ value_self key)
        ∙ ap (λ k. w.front ++ (k, x) ∷ w.back) same)

    pub there_without : (s : Slot) → slice_get slots p ≡ Some (Some s) → standing_from 0 (slice_set slots p None) ≡ without_key value_eq key (standing_from 0 slots)
    there_without s e =
        let w = split_at key 0 p slots s e in
        let own = found.held key p h in
        let same : s.key ≡ key = ap (λ o. option_map_or (λ z. option_map_or (λ (y : Slot). y.key) z key) o key) (sym e ∙ own.1) ∙ own.2 in
        w.emptied
        ∙ sym (ap (without_key value_eq key) w.is ∙ without_past key w.front (entry_at (0 + p) s ∷ w.back) (front_misses s w)
        ∙ ap (λ b. w.front ++ cond b w.back (entry_at (0 + p) s ∷ without_key value_eq key w.back)) (ap (value_eq key) same ∙ value_self key))
