-- The reader of an escape reads what the definition says.
use Rattle.std.proofs.Common.{◌≡◌, ◌≢◌, ℕ, ◌+◌, ◌-◌, ◌*◌, ◌/◌, ◌%◌, ◌<◌, ◌≤◌, Bool, true, false, not, ◌&&◌, ◌==◌, [], ◌∷◌, ◌++◌, length, Option, Some, None, refl, sym, ap, ◌∙◌, subst, arith}
use Rattle.std.specs.Prelude.{if◌then◌else◌, nat_le, nat_lt, is_some, fold}
use Rattle.std.proofs.lemmas.Bool.Decides.{nat_tests}
use Rattle.actx_lex.specs.declared.element.Element.{Element}
use Rattle.actx_lex.specs.declared.element.Element.TheVariants as el
use Rattle.actx_lex.specs.Units.{Text, is_line_end, is_digit, is_hex_digit, hex_value, begins_digit, past_line_end}
use Rattle.actx_lex.specs.Escapes.{control_unit, stands_for_itself, hex_number, are_hex_digits, utf16_units, Escape, control, itself, zero_unit, two_digits, four_digits, code_point, continuation}
use Rattle.actx_lex.specs.Readers.{Reading, units_of, hex_pair, two_by, low_by, four_by, hex_run, encoded, run_by, braced, unicode, digit_escape, other_escape, escape_by, escape_at}
use Rattle.actx_lex.proofs.Basics.{one_some, none_some, equal, both, not_either, not_true, true_false, Short, weaken, if_short, past_line_end-short}
use Rattle.actx_lex.proofs.GapItems.{at_each_line_end}

-- what a relation says is read: the same units, and the same rest
pub record Told (o : Reading) (us b : Text) : Type 0 where
  pub element : Element
  pub read : o ≡ Some (element, b)
  pub same : us ≡ units_of element

-- ---- hexadecimal digits

-- a digit is worth less than 16
worth_small : (c : ℕ) → is_hex_digit c ≡ true → hex_value c ≤ 0x10FFFF
worth_small c h = grind (arith, nat_tests)

abbrev count : ℕ → Text → ℕ
count v us = fold (λ n c. n * 16 + hex_value c) v us

pair-told : (c d : ℕ) (b : Text) → is_hex_digit c ≡ true → is_hex_digit d ≡ true → hex_pair (c ∷ d ∷ b) ≡ Some (hex_value c * 16 + hex_value d, b)
unfolding hex_pair
pair-told c d b h g = rw h (rw g refl)

-- two digits, and what follows them
record Pair (a : Text) (n : ℕ) (b : Text) : Type 0 where
  high : ℕ
  low : ℕ
  parts : a ≡ high ∷ low ∷ b
  high_hex : is_hex_digit high ≡ true
  low_hex : is_hex_digit low ≡ true
  value : n ≡ hex_value high * 16 + hex_value low

pair-read : (a : Text) (n : ℕ) (b : Text) → hex_pair a ≡ Some (n, b) → Pair a n b
unfolding hex_pair
pair-read [] n b h = none_some refl h
pair-read (c ∷ []) n b h = none_some refl h
pair-read (c ∷ d ∷ a) n b h = by (is_hex_digit c && is_hex_digit d) refl h
  where
    by : (t : Bool) → (is_hex_digit c && is_hex_digit d) ≡ t
        → (if◌then◌else◌ {A = Option (ℕ × Text)} t (Some (hex_value c * 16 + hex_value d, a)) None) ≡ Some (n, b) → Pair (c ∷ d ∷ a) n b
    by true p h =
        let g = both (is_hex_digit c) (is_hex_digit d) p in
        let e = one_some refl h in
        record { high = c; low = d; parts = ap (λ (x : ℕ × Text). c ∷ d ∷ x.1) e; high_hex = g.0; low_hex = g.1; value = ap (λ (x : ℕ × Text). x.0) (sym e) }
    by false p h = none_some refl h

no_brace : (c : ℕ) → is_hex_digit c ≡ true → ((c == 123) ≡ false) × ((c == 125) ≡ false)
no_brace c h = (by (c == 123) refl, last (c == 125) refl)
  where
    none : (n : ℕ) → is_hex_digit n ≡ false → c ≡ n → is_hex_digit c ≡ false
    none n f e = ap is_hex_digit e ∙ f

    by : (t : Bool) → (c == 123) ≡ t → t ≡ false
    by true p = true_false h (none 123 refl (equal c 123 p))
    by false p = refl

    last : (t : Bool) → (c == 125) ≡ t → t ≡ false
    last true p = true_false h (none 125 refl (equal c 125 p))
    last false p = refl

count-grows : (v : ℕ) (us : Text) → v ≤ count v us
count-grows v [] = omega arith
count-grows v (c ∷ us) = let h = count-grows (v * 16 + hex_value c) us in omega arith

le_test : (m n : ℕ) → m ≤ n → nat_le m n ≡ true
le_test m n h = grind (arith, nat_tests)

run-told : (v : ℕ) (us b : Text) → are_hex_digits us ≡ true → count v us ≤ 0x10FFFF → hex_run v (us ++ (125 ∷ b)) ≡ Some (count v us, b)
unfolding hex_run
run-told v [] b h l = refl
run-told v (c ∷ us) b h l =
    let g = both (is_hex_digit c) (are_hex_digits us) h in
    let n = no_brace c g.0 in
    let w = count-grows (v * 16 + hex_value c) us in
    rw n.1 (rw g.0 (rw (le_test (v * 16 + hex_value c) 0x10FFFF (omega arith)) (run-told (v * 16 + hex_value c) us b g.1 l)))

-- digits up to a brace, and what follows it
record Run (v : ℕ) (a : Text) (n : ℕ) (b : Text) : Type 0 where
  digits : Text
  parts : a ≡ digits ++ (125 ∷ b)
  hex : are_hex_digits digits ≡ true
  value : n ≡ count v digits
  low : v ≤ 0x10FFFF → n ≤ 0x10FFFF

run-read : (v : ℕ) (a : Text) (n : ℕ) (b : Text) → hex_run v a ≡ Some (n, b) → Run v a n b
unfolding hex_run
run-read v [] n b h = none_some refl h
run-read v (c ∷ a) n b h = let deep = run-read (v * 16 + hex_value c) a n b in by deep (c == 125) refl (is_hex_digit c && nat_le (v * 16 + hex_value c) 0x10FFFF) refl h
  where
    more : (is_hex_digit c && nat_le (v * 16 + hex_value c) 0x10FFFF) ≡ true → Run (v * 16 + hex_value c) a n b → Run v (c ∷ a) n b
    more p r =
        let g = both (is_hex_digit c) (nat_le (v * 16 + hex_value c) 0x10FFFF) p in
        let s : v * 16 + hex_value c ≤ 0x10FFFF = let k = g.1 in grind (arith, nat_tests) in
        record { digits = c ∷ r.digits; parts = ap (λ x. c ∷ x) r.parts; hex = rw g.0 r.hex; value = r.value; low = λ _. r.low s }

    by : (hex_run (v * 16 + hex_value c) a ≡ Some (n, b) → Run (v * 16 + hex_value c) a n b) → (t : Bool) → (c == 125) ≡ t → (u : Bool)
        → (is_hex_digit c && nat_le (v * 16 + hex_value c) 0x10FFFF) ≡ u
        → (if◌then◌else◌ {A = Option (ℕ × Text)} t (Some (v, a)) (if u then hex_run (v * 16 + hex_value c) a else None)) ≡ Some (n, b) → Run v (c ∷ a) n b
    by deep true p u q h =
        let e = one_some refl h in
        let x : v ≡ n = ap (λ (y : ℕ × Text). y.0) e in
        record { digits = []; parts = ap (λ y. y ∷ a) (equal c 125 p) ∙ ap (λ (y : ℕ × Text). 125 ∷ y.1) e; hex = refl; value = sym x; low = λ l. omega arith }
    by deep false p true q h = more q (deep h)
    by deep false p false q h = none_some refl h

from_naught : (c : ℕ) (us : Text) → count 0 (c ∷ us) ≡ count (hex_value c) us
from_naught c us = let e : 0 * 16 + hex_value c ≡ hex_value c = omega arith in ap (λ x. count x us) e

utf16-encoded : (v : ℕ) → utf16_units v ≡ units_of (encoded v)
utf16-encoded v = by (nat_lt v 0x10000)
  where
    by : (t : Bool) → (if t then v ∷ [] else (0xD800 + (v - 0x10000) / 0x400) ∷ (0xDC00 + (v - 0x10000) % 0x400) ∷ [])
        ≡ units_of (if t then el.One v else el.Two (0xD800 + (v - 0x10000) / 0x400) (0xDC00 + (v - 0x10000) % 0x400))
    by true = refl
    by false = refl

-- ---- from the definition to the reader

two-told : (ds b : Text) → are_hex_digits ds ≡ true → length ds ≡ 2 → Told (escape_at (120 ∷ (ds ++ b))) (hex_number ds ∷ []) b
unfolding escape_at
two-told [] b h l = Prim.absurd (omega arith)
two-told (c ∷ []) b h l = Prim.absurd (omega arith)
two-told (c ∷ d ∷ []) b h l =
    let g = both (is_hex_digit c) (is_hex_digit d && true) h in
    let k = both (is_hex_digit d) true g.1 in
    let e : (0 * 16 + hex_value c) * 16 + hex_value d ≡ hex_value c * 16 + hex_value d = omega arith in
    record { element = el.One (hex_value c * 16 + hex_value d); read = ap two_by (pair-told c d b g.0 k.0); same = ap (λ x. x ∷ []) e }
two-told (c ∷ d ∷ e ∷ ds) b h l = Prim.absurd (omega arith)

four-told : (ds b : Text) → are_hex_digits ds ≡ true → length ds ≡ 4 → Told (escape_at (117 ∷ (ds ++ b))) (hex_number ds ∷ []) b
unfolding escape_at unicode
four-told [] b h l = Prim.absurd (omega arith)
four-told (c ∷ []) b h l = Prim.absurd (omega arith)
four-told (c ∷ d ∷ []) b h l = Prim.absurd (omega arith)
four-told (c ∷ d ∷ e ∷ []) b h l = Prim.absurd (omega arith)
four-told (c ∷ d ∷ e ∷ f ∷ []) b h l =
    let g = both (is_hex_digit c) (are_hex_digits (d ∷ e ∷ f ∷ [])) h in
    let k = both (is_hex_digit d) (are_hex_digits (e ∷ f ∷ [])) g.1 in
    let m = both (is_hex_digit e) (are_hex_digits (f ∷ [])) k.1 in
    let n = both (is_hex_digit f) true m.1 in
    let x : (((0 * 16 + hex_value c) * 16 + hex_value d) * 16 + hex_value e) * 16 + hex_value f ≡ (hex_value c * 16 + hex_value d) * 256 + (hex_value e * 16 + hex_value f) = omega arith in
    record {
      element = el.One ((hex_value c * 16 + hex_value d) * 256 + (hex_value e * 16 + hex_value f));
      read = rw (no_brace c g.0).0 (ap four_by (pair-told c d (e ∷ f ∷ b) g.0 k.0) ∙ ap (low_by (hex_value c * 16 + hex_value d)) (pair-told e f b m.0 n.0));
      same = ap (λ y. y ∷ []) x;
    }
four-told (c ∷ d ∷ e ∷ f ∷ g ∷ ds) b h l = Prim.absurd (omega arith)

point-told : (ds b : Text) → are_hex_digits ds ≡ true → ds ≢ [] → hex_number ds ≤ 0x10FFFF → Told (escape_at (117 ∷ 123 ∷ (ds ++ (125 ∷ b)))) (utf16_units (hex_number ds)) b
unfolding escape_at unicode
point-told [] b h n l = Prim.absurd (n refl)
point-told (c ∷ ds) b h n l =
    let g = both (is_hex_digit c) (are_hex_digits ds) h in
    let e = from_naught c ds in
    let k : count (hex_value c) ds ≤ 0x10FFFF = omega arith in
    record {
      element = encoded (count (hex_value c) ds);
      read = rw g.0 (ap run_by (run-told (hex_value c) ds b g.1 k));
      same = ap utf16_units e ∙ utf16-encoded (count (hex_value c) ds);
    }

continued : (c : ℕ) → is_line_end c ≡ true → (m : Text) → escape_at (c ∷ m) ≡ Some (el.Empty, past_line_end c m)
unfolding escape_at
continued = at_each_line_end (λ c. (m : Text) → escape_at (c ∷ m) ≡ Some (el.Empty, past_line_end c m)) (λ m. refl) (λ m. refl) (λ m. refl) (λ m. refl)

no_control : (o : Option ℕ) → is_some o ≡ false → o ≡ None
no_control None h = refl
no_control (Some u) h = Prim.absurd (cc)

itself-told : (c : ℕ) (b : Text) → stands_for_itself c ≡ true → escape_at (c ∷ b) ≡ Some (el.One c, b)
unfolding escape_at
itself-told c b h =
    let l = not_either _ (is_line_end c) h in
    let u = not_either _ (c == 117) l.0 in
    let x = not_either _ (c == 120) u.0 in
    let d = not_either (is_some (control_unit c)) (is_digit c) x.0 in
    let n = no_control (control_unit c) (not_true _ d.0) in
    ap (λ o. escape_by o c b) n ∙ rw x.1 (rw u.1 (rw d.1 (rw l.1 refl)))

pub escape-told : {us a b : Text} → Escape us a b → Told (escape_at a) us b
unfolding escape_at
escape-told (control {c = c} {u = u} {b = b} e h) = record { element = el.One u; read = ap escape_at e ∙ ap (λ o. escape_by o c b) h; same = refl }
escape-told (itself {c = c} {b = b} e h) = record { element = el.One c; read = ap escape_at e ∙ itself-told c b h; same = refl }
escape-told (zero_unit {b = b} e h) = record { element = el.One 0; read = ap escape_at e ∙ rw h refl; same = refl }
escape-told (two_digits ds {b = b} e h l) = let t = two-told ds b h l in record { element = t.element; read = ap escape_at e ∙ t.read; same = t.same }
escape-told (four_digits ds {b = b} e h l) = let t = four-told ds b h l in record { element = t.element; read = ap escape_at e ∙ t.read; same = t.same }
escape-told (code_point ds {b = b} e h n l) = let t = point-told ds b h n l in record { element = t.element; read = ap escape_at e ∙ t.read; same = t.same }
escape-told (continuation {c = c} {m = m} e h g) = record { element = el.Empty; read = ap escape_at e ∙ continued c h m ∙ ap (λ x. Some (el.Empty, x)) (sym g); same = refl }

-- ---- from the reader to the definition

module _ (v : Element) (b : Text) where
  two-read : (a : Text) → two_by (hex_pair a) ≡ Some (v, b) → Escape (units_of v) (120 ∷ a) b
  two-read a h = by (hex_pair a) refl h
    where
      here : (n : ℕ) (m : Text) → Pair a n m → Escape (n ∷ []) (120 ∷ a) m
      here n m p =
          let e : n ≡ (0 * 16 + hex_value p.high) * 16 + hex_value p.low = let x = p.value in omega arith in
          subst (λ x. Escape (x ∷ []) (120 ∷ a) m) (sym e)
          (two_digits (p.high ∷ p.low ∷ []) (ap (λ x. 120 ∷ x) p.parts) (rw p.high_hex (rw p.low_hex refl)) refl)

      by : (o : Option (ℕ × Text)) → hex_pair a ≡ o → two_by o ≡ Some (v, b) → Escape (units_of v) (120 ∷ a) b
      by None p h = none_some refl h
      by (Some r) p h = subst (λ (x : Element × Text). Escape (units_of x.0) (120 ∷ a) x.1) (one_some refl h) (here r.0 r.1 (pair-read a r.0 r.1 p))

  four-read : (a : Text) → four_by (hex_pair a) ≡ Some (v, b) → Escape (units_of v) (117 ∷ a) b
  four-read a h = by (hex_pair a) refl h
    where
      here : (x y : ℕ) (m n : Text) → Pair a x m → Pair m y n → Escape ((x * 256 + y) ∷ []) (117 ∷ a) n
      here x y m n p q =
          let e : x * 256 + y ≡ (((0 * 16 + hex_value p.high) * 16 + hex_value p.low) * 16 + hex_value q.high) * 16 + hex_value q.low =
          let k = p.value in let l = q.value in omega arith in
          subst (λ z. Escape (z ∷ []) (117 ∷ a) n) (sym e)
          (four_digits (p.high ∷ p.low ∷ q.high ∷ q.low ∷ []) (ap (λ z. 117 ∷ z) p.parts ∙ ap (λ z. 117 ∷ p.high ∷ p.low ∷ z) q.parts)
          (rw p.high_hex (rw p.low_hex (rw q.high_hex (rw q.low_hex refl)))) refl)

      last : (x : ℕ) (m : Text) → Pair a x m → (o : Option (ℕ × Text)) → hex_pair m ≡ o → low_by x o ≡ Some (v, b) → Escape (units_of v) (117 ∷ a) b
      last x m p None q h = none_some refl h
      last x m p (Some r) q h = subst (λ (z : Element × Text). Escape (units_of z.0) (117 ∷ a) z.1) (one_some refl h) (here x r.0 m r.1 p (pair-read m r.0 r.1 q))

      by : (o : Option (ℕ × Text)) → hex_pair a ≡ o → four_by o ≡ Some (v, b) → Escape (units_of v) (117 ∷ a) b
      by None p h = none_some refl h
      by (Some r) p h = last r.0 r.1 (pair-read a r.0 r.1 p) (hex_pair r.1) refl h

  point-read : (a : Text) → braced a ≡ Some (v, b) → Escape (units_of v) (117 ∷ 123 ∷ a) b
  point-read [] h = none_some refl h
  point-read (c ∷ a) h = by (is_hex_digit c) refl (hex_run (hex_value c) a) refl h
    where
      small : is_hex_digit c ≡ true → hex_value c ≤ 0x10FFFF
      small p = worth_small c p

      here : is_hex_digit c ≡ true → (n : ℕ) (m : Text) → Run (hex_value c) a n m → Escape (units_of (encoded n)) (117 ∷ 123 ∷ c ∷ a) m
      here p n m r =
          let e : n ≡ hex_number (c ∷ r.digits) = r.value ∙ sym (from_naught c r.digits) in
          let l = r.low (small p) in
          let k : hex_number (c ∷ r.digits) ≤ 0x10FFFF = omega arith in
          subst (λ x. Escape x (117 ∷ 123 ∷ c ∷ a) m) (ap utf16_units (sym e) ∙ utf16-encoded n)
          (code_point (c ∷ r.digits) (ap (λ x. 117 ∷ 123 ∷ c ∷ x) r.parts) (rw p r.hex) (λ z. cc) k)

      by : (t : Bool) → is_hex_digit c ≡ t → (o : Option (ℕ × Text)) → hex_run (hex_value c) a ≡ o
          → (if◌then◌else◌ {A = Reading} t (run_by o) None) ≡ Some (v, b) → Escape (units_of v) (117 ∷ 123 ∷ c ∷ a) b
      by false p o q h = none_some refl h
      by true p None q h = none_some refl h
      by true p (Some r) q h = subst (λ (x : Element × Text). Escape (units_of x.0) (117 ∷ 123 ∷ c ∷ a) x.1) (one_some refl h) (here p r.0 r.1 (run-read (hex_value c) a r.0 r.1 q))

  unicode-read : (a : Text) → unicode a ≡ Some (v, b) → Escape (units_of v) (117 ∷ a) b
  unfolding unicode
  unicode-read [] h = none_some refl h
  unicode-read (c ∷ a) h = by (c == 123) refl h
    where
      by : (t : Bool) → (c == 123) ≡ t → (if◌then◌else◌ {A = Reading} t (braced a) (four_by (hex_pair (c ∷ a)))) ≡ Some (v, b) → Escape (units_of v) (117 ∷ c ∷ a) b
      by true p h = subst (λ x. Escape (units_of v) (117 ∷ x ∷ a) b) (sym (equal c 123 p)) (point-read a h)
      by false p h = four-read (c ∷ a) h

  zero-read : (c : ℕ) (a : Text) → digit_escape c a ≡ Some (v, b) → Escape (units_of v) (c ∷ a) b
  zero-read c a h = by ((c == 48) && not (begins_digit a)) refl h
    where
      by : (t : Bool) → ((c == 48) && not (begins_digit a)) ≡ t → (if◌then◌else◌ {A = Reading} t (Some (el.One 0, a)) None) ≡ Some (v, b) → Escape (units_of v) (c ∷ a) b
      by true p h =
          let g = both (c == 48) (not (begins_digit a)) p in
          subst (λ (x : Element × Text). Escape (units_of x.0) (c ∷ a) x.1) (one_some refl h) (zero_unit (ap (λ x. x ∷ a) (equal c 48 g.0)) (not_true _ g.1))
      by false p h = none_some refl h

  other-read : (c : ℕ) (a : Text) → control_unit c ≡ None → other_escape c a ≡ Some (v, b) → Escape (units_of v) (c ∷ a) b
  other-read c a n h = by (c == 120) refl (c == 117) refl (is_digit c) refl (is_line_end c) refl h
    where
      own : (c == 120) ≡ false → (c == 117) ≡ false → is_digit c ≡ false → is_line_end c ≡ false → stands_for_itself c ≡ true
      own p q r s = rw n (rw r (rw p (rw q (rw s refl))))

      by : (t : Bool) → (c == 120) ≡ t → (u : Bool) → (c == 117) ≡ u → (d : Bool) → is_digit c ≡ d → (l : Bool) → is_line_end c ≡ l
          → (if◌then◌else◌ {A = Reading} t (two_by (hex_pair a)) (if u then unicode a else (if d then digit_escape c a else (if l then Some (el.Empty, past_line_end c a) else Some (el.One c, a))))) ≡ Some (v, b)
          → Escape (units_of v) (c ∷ a) b
      by true p u q d r l s h = subst (λ x. Escape (units_of v) (x ∷ a) b) (sym (equal c 120 p)) (two-read a h)
      by false p true q d r l s h = subst (λ x. Escape (units_of v) (x ∷ a) b) (sym (equal c 117 q)) (unicode-read a h)
      by false p false q true r l s h = zero-read c a h
      by false p false q false r true s h = subst (λ (x : Element × Text). Escape (units_of x.0) (c ∷ a) x.1) (one_some refl h) (continuation refl s refl)
      by false p false q false r false s h = subst (λ (x : Element × Text). Escape (units_of x.0) (c ∷ a) x.1) (one_some refl h) (itself refl (own p q r s))

  pub escape-read : (a : Text) → escape_at a ≡ Some (v, b) → Escape (units_of v) a b
  unfolding escape_at
  escape-read [] h = none_some refl h
  escape-read (c ∷ a) h = by (control_unit c) refl h
    where
      by : (o : Option ℕ) → control_unit c ≡ o → escape_by o c a ≡ Some (v, b) → Escape (units_of v) (c ∷ a) b
      by (Some u) p h = subst (λ (x : Element × Text). Escape (units_of x.0) (c ∷ a) x.1) (one_some refl h) (control refl p)
      by None p h = other-read c a p h

-- ---- each escape takes units

pair-short : (a : Text) → Short a (hex_pair a)
unfolding hex_pair
pair-short [] = tt
pair-short (c ∷ []) = tt
pair-short (c ∷ d ∷ a) = if_short {A = ℕ} (c ∷ d ∷ a) (is_hex_digit c && is_hex_digit d) (Some (hex_value c * 16 + hex_value d, a)) None (omega arith) tt

run-short : (v : ℕ) (a : Text) → Short a (hex_run v a)
unfolding hex_run
run-short v [] = tt
run-short v (c ∷ a) =
    if_short {A = ℕ} (c ∷ a) (c == 125) (Some (v, a)) _ (omega arith)
    (if_short {A = ℕ} (c ∷ a) (is_hex_digit c && nat_le (v * 16 + hex_value c) 0x10FFFF) (hex_run (v * 16 + hex_value c) a) None (weaken c a _ (run-short (v * 16 + hex_value c) a)) tt)

two-short : (a : Text) (o : Option (ℕ × Text)) → Short a o → Short a (two_by o)
two-short a None s = tt
two-short a (Some r) s = s

low-short : (h : ℕ) (a m : Text) (o : Option (ℕ × Text)) → length m < length a → Short m o → Short a (low_by h o)
low-short h a m None l s = tt
low-short h a m (Some r) l s = omega arith

four-short : (a : Text) (o : Option (ℕ × Text)) → Short a o → Short a (four_by o)
four-short a None s = tt
four-short a (Some r) s = low-short r.0 a r.1 (hex_pair r.1) s (pair-short r.1)

run_by-short : (a : Text) (o : Option (ℕ × Text)) → Short a o → Short a (run_by o)
run_by-short a None s = tt
run_by-short a (Some r) s = s

braced-short : (a : Text) → Short a (braced a)
braced-short [] = tt
braced-short (c ∷ a) = if_short {A = Element} (c ∷ a) (is_hex_digit c) (run_by (hex_run (hex_value c) a)) None (run_by-short (c ∷ a) _ (weaken c a _ (run-short (hex_value c) a))) tt

unicode-short : (a : Text) → Short a (unicode a)
unfolding unicode
unicode-short [] = tt
unicode-short (c ∷ a) = if_short {A = Element} (c ∷ a) (c == 123) (braced a) (four_by (hex_pair (c ∷ a))) (weaken c a _ (braced-short a)) (four-short (c ∷ a) _ (pair-short (c ∷ a)))

one : (c : ℕ) (u : Element) (a : Text) → Short (c ∷ a) (Some (u, a))
one c u a = omega arith

other-short : (c : ℕ) (a : Text) → Short (c ∷ a) (other_escape c a)
other-short c a =
    let i = if_short {A = Element} (c ∷ a) in
    let w = past_line_end-short c a in
    i (c == 120) (two_by (hex_pair a)) _ (weaken c a _ (two-short a _ (pair-short a)))
    (i (c == 117) (unicode a) _ (weaken c a _ (unicode-short a))
    (i (is_digit c) (digit_escape c a) _ (i ((c == 48) && not (begins_digit a)) (Some (el.One 0, a)) None (one c (el.One 0) a) tt)
    (i (is_line_end c) (Some (el.Empty, past_line_end c a)) (Some (el.One c, a)) (omega arith) (one c (el.One c) a))))

pub escape-short : (a : Text) → Short a (escape_at a)
unfolding escape_at
escape-short [] = tt
escape-short (c ∷ a) = by (control_unit c)
  where
    by : (o : Option ℕ) → Short (c ∷ a) (escape_by o c a)
    by (Some u) = one c (el.One u) a
    by None = other-short c a
