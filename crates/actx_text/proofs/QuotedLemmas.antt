-- Quoted texts: reading one unit off the front undoes writing it.
use Rattle.std.proofs.Common.{◌≡◌, ℕ, ◌+◌, ◌*◌, ◌/◌, ◌%◌, ◌^◌, ◌<◌, Bool, true, false, ◌&&◌, ◌||◌, ◌⊎◌, List, [], ◌∷◌, ◌++◌, drop, All, flat_map, nat_le, ◌==◌, if◌then◌else◌, slice_index, refl, sym, ap, ap₂, subst, ◌∙◌, inl, inr, arith, append_assoc, eqb-true, true≢false}
use Rattle.std.proofs.lemmas.Bool.{or_cases, or_parts}
use Rattle.std.proofs.lemmas.List.Elements.{All-head, All-tail}
use Rattle.std.proofs.lemmas.Str.{digit_value-digit_char}
use Rattle.std.specs.Char.{digit_value}
use Rattle.actx_text.specs.Quoted.{quoted_unit, unit_escape, quoted_text}

-- the unit that the bytes begin with, and the bytes after it
abbrev numbered : List ℕ → ℕ
numbered bytes = ((digit_value (slice_index bytes 2) * 0x10 + digit_value (slice_index bytes 3)) * 0x10 + digit_value (slice_index bytes 4)) * 0x10
    + digit_value (slice_index bytes 5)

abbrev first_unit : List ℕ → ℕ
first_unit bytes = if slice_index bytes 0 == 0x5C then (if slice_index bytes 1 == 0x75 then numbered bytes else slice_index bytes 1) else slice_index bytes 0

abbrev after_unit : List ℕ → List ℕ
after_unit bytes = if slice_index bytes 0 == 0x5C then (if slice_index bytes 1 == 0x75 then drop 6 bytes else drop 2 bytes) else drop 1 bytes

-- the bytes begin with this unit, these bytes follow it, and no quotation mark stands first
record Begins (bytes : List ℕ) (u : ℕ) (rest : List ℕ) : Type 0 where
  unit : first_unit bytes ≡ u
  after : after_unit bytes ≡ rest
  inside : (slice_index bytes 0 == 0x22) ≡ false

module _ (u : ℕ) (rest : List ℕ) where
  begins_marked : (u ≡ 0x22) ⊎ (u ≡ 0x5C) → Begins (0x5C ∷ u ∷ rest) u rest
  begins_marked (inl e) = subst (λ x. Begins (0x5C ∷ x ∷ rest) x rest) (sym e) (record { unit = refl; after = refl; inside = refl })
  begins_marked (inr e) = subst (λ x. Begins (0x5C ∷ x ∷ rest) x rest) (sym e) (record { unit = refl; after = refl; inside = refl })

  begins_plain : (u == 0x22) ≡ false → (u == 0x5C) ≡ false → Begins (u ∷ rest) u rest
  begins_plain e f = record { unit = rw f refl; after = rw f refl; inside = e }

  begins_numbered : u < 2 ^ 16 → Begins (unit_escape u ++ rest) u rest
  begins_numbered small = record {
    unit = rw (digit_value-digit_char (u / 0x1000) (omega arith), digit_value-digit_char (u / 0x100 % 0x10) (omega arith), digit_value-digit_char (u / 0x10 % 0x10) (omega arith), digit_value-digit_char (u % 0x10) (omega arith)) (omega arith);
    after = refl;
    inside = refl;
  }

  begins_any : (marked plain : Bool) → marked ≡ (u == 0x22 || u == 0x5C) → u < 2 ^ 16
      → Begins ((if marked then 0x5C ∷ u ∷ [] else (if plain then u ∷ [] else unit_escape u)) ++ rest) u rest
  begins_any true plain e small = begins_marked (either (or_cases (u == 0x22) (u == 0x5C) (sym e)))
    where
      either : ((u == 0x22) ≡ true) ⊎ ((u == 0x5C) ≡ true) → (u ≡ 0x22) ⊎ (u ≡ 0x5C)
      either (inl h) = inl (eqb-true u 0x22 h)
      either (inr h) = inr (eqb-true u 0x5C h)
  begins_any false true e small = let parts = or_parts (u == 0x22) (u == 0x5C) (sym e) in begins_plain parts.0 parts.1
  begins_any false false e small = begins_numbered small

  begins_quoted : u < 2 ^ 16 → Begins (quoted_unit u ++ rest) u rest
  unfolding quoted_unit
  begins_quoted small = begins_any (u == 0x22 || u == 0x5C) (nat_le 0x20 u && nat_le u 0x7E) refl small

-- the units after the first quotation mark, the last one, and what follows
abbrev tail_of : List ℕ → List ℕ → List ℕ
tail_of text after = (flat_map quoted_unit text ++ 0x22 ∷ []) ++ after

tail_of-cons : (u : ℕ) (text after : List ℕ) → u < 2 ^ 16 → Begins (tail_of (u ∷ text) after) u (tail_of text after)
tail_of-cons u text after small =
    rw (append_assoc (quoted_unit u) (flat_map quoted_unit text) (0x22 ∷ []), append_assoc (quoted_unit u) (flat_map quoted_unit text ++ 0x22 ∷ []) after)
    (begins_quoted u (tail_of text after) small)

one_tail : (text other after behind : List ℕ) → All (λ u. u < 2 ^ 16) text → All (λ u. u < 2 ^ 16) other
    → tail_of text after ≡ tail_of other behind → (text ≡ other) × (after ≡ behind)
one_tail [] [] after behind these those e = (refl, ap (drop 1) e)
one_tail [] (v ∷ other) after behind these those e =
    let there = tail_of-cons v other behind (All-head (λ x. x < 2 ^ 16) v other those) in
    absurd (true≢false (ap (λ bytes. slice_index bytes 0 == 0x22) e ∙ there.inside))
one_tail (u ∷ text) [] after behind these those e =
    let here = tail_of-cons u text after (All-head (λ x. x < 2 ^ 16) u text these) in
    absurd (true≢false (ap (λ bytes. slice_index bytes 0 == 0x22) (sym e) ∙ here.inside))
one_tail (u ∷ text) (v ∷ other) after behind these those e =
    let here = tail_of-cons u text after (All-head (λ x. x < 2 ^ 16) u text these) in
    let there = tail_of-cons v other behind (All-head (λ x. x < 2 ^ 16) v other those) in
    let tails = sym here.after ∙ ap after_unit e ∙ there.after in
    let next = one_tail text other after behind (All-tail (λ x. x < 2 ^ 16) u text these) (All-tail (λ x. x < 2 ^ 16) v other those) tails in
    (ap₂ (λ x y. x ∷ y) (sym here.unit ∙ ap first_unit e ∙ there.unit) next.0, next.1)

-- two quoted texts at the front of the same bytes are one
pub one_reading : (text other after behind : List ℕ) → All (λ u. u < 2 ^ 16) text → All (λ u. u < 2 ^ 16) other
    → quoted_text text ++ after ≡ quoted_text other ++ behind → (text ≡ other) × (after ≡ behind)
one_reading text other after behind these those e = one_tail text other after behind these those (ap (drop 1) e)
