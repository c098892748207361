-- A walk over entries by their places meets each one.
use Rattle.std.proofs.Common.{◌≡◌, ℕ, suc, ◌+◌, ◌<◌, ◌≤◌, cond, Bool, true, false, nat_le, List, [], ◌∷◌, ◌++◌, append_assoc, map, length, All, Option, Some, None, refl, sym, ap, ◌∙◌, true≢false, arith}
use Rattle.std.proofs.lemmas.Bool.Decides.{nat_tests}
use Rattle.std.proofs.lemmas.List.{append-nil}
use Rattle.std.proofs.lemmas.List.Elements.{All-head, All-tail}
use Rattle.std.proofs.lemmas.Option.{none-some}
use Rattle.std.specs.List.{find}
use Rattle.std.specs.Option.{option_map, option_map_or, option_and_then}
use Rattle.actx_value.specs.declared.ids.ObjId.{ObjId}
use Rattle.actx_value.specs.declared.value.Value.{Value}
use Rattle.actx_objects.specs.declared.entries.Placed.{Placed}
use Rattle.actx_objects.specs.declared.kind.Kind.{Kind}
use Rattle.actx_objects.specs.declared.kind.Kind.TheVariants.{Plain, Array}
use Rattle.actx_objects.specs.declared.object.Object.{Object}
use Rattle.actx_objects.specs.Kinds.{is_array, is_collection}
use Rattle.actx_objects.specs.Entries.{AscendFrom, triple_of, first_from}
use Rattle.actx_objects.specs.Objects.{ObjectStore, object_at, kind_of, size_of, size_in, entries_of, entry_from}
use Rattle.actx_shown.specs.declared.items.Item.{Item}
use Rattle.actx_shown.specs.Items.{entry, entry_item}

-- the entries from the first one on whose place is at least this one
abbrev pub later : ℕ → List (Value × Placed) → List (Value × Placed)
later place [] = []
later place (e ∷ es) = cond (nat_le place e.1.place) (e ∷ es) (later place es)

-- the first of them
abbrev pub first_of : ℕ → List (Value × Placed) → Option (ℕ × Value × Value)
first_of place es = option_map triple_of (find (λ e. nat_le place e.1.place) es)

-- all of them, where the places ascend from there
pub later_all : (place : ℕ) (es : List (Value × Placed)) → AscendFrom place es → later place es ≡ es
later_all place [] a = refl
later_all place (e ∷ es) a = let h : place ≤ e.1.place = a.0 in let b : nat_le place e.1.place ≡ true = grind (arith, nat_tests) in ap (λ z. cond z (e ∷ es) (later place es)) b

-- an entry before the place is passed over
passed : (place : ℕ) (e : Value × Placed) (es : List (Value × Placed)) → e.1.place < place → later place (e ∷ es) ≡ later place es
passed place e es h = let b : nat_le place e.1.place ≡ false = grind (arith, nat_tests) in ap (λ z. cond z (e ∷ es) (later place es)) b

after : (q : ℕ) (e : Value × Placed) (es : List (Value × Placed)) → AscendFrom q (e ∷ es) → later (suc e.1.place) (e ∷ es) ≡ es
after q e es a = passed (suc e.1.place) e es (omega arith) ∙ later_all (suc e.1.place) es a.1

-- the first one's place is at least that place
pub first_reaches : (place : ℕ) (es : List (Value × Placed)) (t : ℕ × Value × Value) → first_of place es ≡ Some t → place ≤ t.0
first_reaches place [] t h = absurd (none-some t h)
first_reaches place (e ∷ es) t h = by (nat_le place e.1.place) refl h (first_reaches place es t)
  where
    by : (b : Bool) → nat_le place e.1.place ≡ b → option_map triple_of (cond b (Some e) (find (λ e. nat_le place e.1.place) es)) ≡ Some t → (first_of place es ≡ Some t → place ≤ t.0) → place ≤ t.0
    by true b j more = let same : e.1.place ≡ t.0 = ap (λ o. option_map_or (λ (u : ℕ × Value × Value). u.0) o 0) j in let k : place ≤ e.1.place = grind (arith, nat_tests) in omega arith
    by false b j more = more j

pub first_below : (place n : ℕ) (es : List (Value × Placed)) (t : ℕ × Value × Value) → All (λ e. e.1.place < n) es → first_of place es ≡ Some t → t.0 < n
first_below place n [] t all h = absurd (none-some t h)
first_below place n (e ∷ es) t all h = by (nat_le place e.1.place) h (first_below place n es t (All-tail (λ (e : Value × Placed). e.1.place < n) e es all))
  where
    by : (b : Bool) → option_map triple_of (cond b (Some e) (find (λ e. nat_le place e.1.place) es)) ≡ Some t → (first_of place es ≡ Some t → t.0 < n) → t.0 < n
    by true j more = let same : e.1.place ≡ t.0 = ap (λ o. option_map_or (λ (u : ℕ × Value × Value). u.0) o 0) j in let k : e.1.place < n = All-head (λ (e : Value × Placed). e.1.place < n) e es all in omega arith
    by false j more = more j

-- a step of the walk
pub step : (q place : ℕ) (es : List (Value × Placed)) (t : ℕ × Value × Value) → AscendFrom q es → first_of place es ≡ Some t → (e : Value × Placed) × (triple_of e ≡ t) × (later place es ≡ e ∷ later (t.0 + 1) es)
step q place [] t a h = absurd (none-some t h)
step q place (e ∷ es) t a h = by (nat_le place e.1.place) refl h (step (suc e.1.place) place es t a.1)
  where
    by : (b : Bool) → nat_le place e.1.place ≡ b → option_map triple_of (cond b (Some e) (find (λ e. nat_le place e.1.place) es)) ≡ Some t
        → (first_of place es ≡ Some t → (d : Value × Placed) × (triple_of d ≡ t) × (later place es ≡ d ∷ later (t.0 + 1) es))
        → (d : Value × Placed) × (triple_of d ≡ t) × (cond b (e ∷ es) (later place es) ≡ d ∷ later (t.0 + 1) (e ∷ es))
    by true b j more =
        let same : triple_of e ≡ t = ap (λ o. option_map_or (λ (u : ℕ × Value × Value). u) o t) j in
        let next : suc e.1.place ≡ t.0 + 1 = let p : e.1.place ≡ t.0 = ap (λ (u : ℕ × Value × Value). u.0) same in omega arith in
        (e, same, ap (λ z. e ∷ z) (sym (after q e es a) ∙ ap (λ p. later p (e ∷ es)) next))
    by false b j more =
        let d = more j in
        let k : e.1.place < place = grind (arith, nat_tests) in
        let reaches : place ≤ t.0 = first_reaches place es t j in
        (d.0, d.1, d.2 ∙ ap (λ z. d.0 ∷ z) (sym (passed (t.0 + 1) e es (omega arith))))

-- the end of the walk
pub ended : (place : ℕ) (es : List (Value × Placed)) → first_of place es ≡ None → later place es ≡ []
ended place [] h = refl
ended place (e ∷ es) h = by (nat_le place e.1.place) h (ended place es)
  where
    by : (b : Bool) → option_map triple_of (cond b (Some e) (find (λ e. nat_le place e.1.place) es)) ≡ None → (first_of place es ≡ None → later place es ≡ []) → cond b (e ∷ es) (later place es) ≡ []
    by true j more = absurd (none-some (triple_of e) (sym j))
    by false j more = more j

-- what a call reads, of the entries of an object
pub entry_is : (s : ObjectStore) (o : ObjId) (place : ℕ) → entry_from s o place ≡ first_of place (entries_of s o).standing
entry_is s o place = by (object_at s o)
  where
    by : (w : Option Object) → option_and_then (λ x. first_from place x.entries) w ≡ first_of place (option_map_or (λ x. x.entries) w (record { standing = []; places = 0 })).standing
    by (Some x) = refl
    by None = refl

no_array : (k : Kind) → is_collection k ≡ true → is_array k ≡ false
no_array Array h = absurd (true≢false (sym h))
no_array k h = refl

pub size_is : (s : ObjectStore) (o : ObjId) → is_collection (kind_of s o) ≡ true → size_of s o ≡ length (entries_of s o).standing
size_is s o h = by (object_at s o) h
  where
    by : (w : Option Object) → is_collection (option_map_or (λ x. x.kind) w Plain) ≡ true → option_map_or size_in w 0 ≡ length (option_map_or (λ x. x.entries) w (record { standing = []; places = 0 })).standing
    by (Some x) j = rw (no_array x.kind j, j) refl
    by None j = absurd (true≢false (sym j))

-- nothing is left after the last step
pub all_put : (has_values : Bool) (items : List Item) (left : List (Value × Placed)) (all : List Item) → left ≡ [] → items ++ map (entry has_values) left ≡ all → items ≡ all
all_put has_values items left all k h = sym (append-nil items) ∙ ap (λ z. items ++ map (entry has_values) z) (sym k) ∙ h

-- a step puts the first of what is left
pub one_put : (has_values : Bool) (items more : List Item) (rest left : List (Value × Placed)) (all : List Item) (e : Value × Placed) (t : ℕ × Value × Value)
    → triple_of e ≡ t → left ≡ e ∷ rest → more ≡ items ++ entry_item has_values t.1 t.2 ∷ [] → items ++ map (entry has_values) left ≡ all
    → more ++ map (entry has_values) rest ≡ all
one_put has_values items more rest left all e t same first put h =
    ap (λ z. z ++ map (entry has_values) rest) put
    ∙ append_assoc items (entry_item has_values t.1 t.2 ∷ []) (map (entry has_values) rest)
    ∙ ap (λ (u : ℕ × Value × Value). items ++ entry_item has_values u.1 u.2 ∷ map (entry has_values) rest) (sym same)
    ∙ ap (λ z. items ++ map (entry has_values) z) (sym first)
    ∙ h
