-- A reserved word is among those with its first letter.
use Rattle.std.proofs.Common.{◌≡◌, ◌≢◌, ℕ, ◌≤◌, false, ◌||◌, [], ◌∷◌, length, get_or, refl, sym, subst, arith, codes}
use Rattle.actx_lex.specs.Units.{Text}
use Rattle.actx_lex.specs.Words.{same_units, is_reserved}
use Rattle.actx_lex.proofs.Basics.{or-assoc, or-false, not_equal}

-- a fact of a text whose first unit is known, from one of that unit and what follows
pub at_first : (P : Text → Type 0) (u : ℕ) → ((r : Text) → P (u ∷ r)) → (us : Text) → 1 ≤ length us → get_or us 0 0 ≡ u → P us
at_first P u h [] l e = Prim.absurd (omega arith)
at_first P u h (c ∷ r) l e = subst (λ x. P (x ∷ r)) (sym e) (h r)

pub reserved-nil : is_reserved [] ≡ false
unfolding is_reserved same_units
reserved-nil = refl

pub reserved-a : (us : Text) → 1 ≤ length us → get_or us 0 0 ≡ 97 → same_units us (codes "arguments") || same_units us (codes "await") ≡ is_reserved us
unfolding is_reserved same_units
reserved-a = at_first (λ us. same_units us (codes "arguments") || same_units us (codes "await") ≡ is_reserved us) 97 here
  where
    here : (r : Text) → same_units (97 ∷ r) (codes "arguments") || same_units (97 ∷ r) (codes "await") ≡ is_reserved (97 ∷ r)
    here r = simp or-false

pub reserved-b : (us : Text) → 1 ≤ length us → get_or us 0 0 ≡ 98 → same_units us (codes "break") ≡ is_reserved us
unfolding is_reserved same_units
reserved-b = at_first (λ us. same_units us (codes "break") ≡ is_reserved us) 98 here
  where
    here : (r : Text) → same_units (98 ∷ r) (codes "break") ≡ is_reserved (98 ∷ r)
    here r = simp or-false

pub reserved-c : (us : Text) → 1 ≤ length us → get_or us 0 0 ≡ 99 → same_units us (codes "case") || same_units us (codes "catch") || same_units us (codes "class") || same_units us (codes "const") || same_units us (codes "continue") ≡ is_reserved us
unfolding is_reserved same_units
reserved-c = at_first (λ us. same_units us (codes "case") || same_units us (codes "catch") || same_units us (codes "class") || same_units us (codes "const") || same_units us (codes "continue") ≡ is_reserved us) 99 here
  where
    here : (r : Text) → same_units (99 ∷ r) (codes "case") || same_units (99 ∷ r) (codes "catch") || same_units (99 ∷ r) (codes "class") || same_units (99 ∷ r) (codes "const") || same_units (99 ∷ r) (codes "continue") ≡ is_reserved (99 ∷ r)
    here r = simp (or-assoc, or-false)

pub reserved-d : (us : Text) → 1 ≤ length us → get_or us 0 0 ≡ 100 → same_units us (codes "debugger") || same_units us (codes "default") || same_units us (codes "delete") || same_units us (codes "do") ≡ is_reserved us
unfolding is_reserved same_units
reserved-d = at_first (λ us. same_units us (codes "debugger") || same_units us (codes "default") || same_units us (codes "delete") || same_units us (codes "do") ≡ is_reserved us) 100 here
  where
    here : (r : Text) → same_units (100 ∷ r) (codes "debugger") || same_units (100 ∷ r) (codes "default") || same_units (100 ∷ r) (codes "delete") || same_units (100 ∷ r) (codes "do") ≡ is_reserved (100 ∷ r)
    here r = simp (or-assoc, or-false)

pub reserved-e : (us : Text) → 1 ≤ length us → get_or us 0 0 ≡ 101 → same_units us (codes "else") || same_units us (codes "enum") || same_units us (codes "eval") || same_units us (codes "export") || same_units us (codes "extends") ≡ is_reserved us
unfolding is_reserved same_units
reserved-e = at_first (λ us. same_units us (codes "else") || same_units us (codes "enum") || same_units us (codes "eval") || same_units us (codes "export") || same_units us (codes "extends") ≡ is_reserved us) 101 here
  where
    here : (r : Text) → same_units (101 ∷ r) (codes "else") || same_units (101 ∷ r) (codes "enum") || same_units (101 ∷ r) (codes "eval") || same_units (101 ∷ r) (codes "export") || same_units (101 ∷ r) (codes "extends") ≡ is_reserved (101 ∷ r)
    here r = simp (or-assoc, or-false)

pub reserved-f : (us : Text) → 1 ≤ length us → get_or us 0 0 ≡ 102 → same_units us (codes "false") || same_units us (codes "finally") || same_units us (codes "for") || same_units us (codes "function") ≡ is_reserved us
unfolding is_reserved same_units
reserved-f = at_first (λ us. same_units us (codes "false") || same_units us (codes "finally") || same_units us (codes "for") || same_units us (codes "function") ≡ is_reserved us) 102 here
  where
    here : (r : Text) → same_units (102 ∷ r) (codes "false") || same_units (102 ∷ r) (codes "finally") || same_units (102 ∷ r) (codes "for") || same_units (102 ∷ r) (codes "function") ≡ is_reserved (102 ∷ r)
    here r = simp (or-assoc, or-false)

pub reserved-i : (us : Text) → 1 ≤ length us → get_or us 0 0 ≡ 105 → same_units us (codes "if") || same_units us (codes "implements") || same_units us (codes "import") || same_units us (codes "in") || same_units us (codes "instanceof") || same_units us (codes "interface") ≡ is_reserved us
unfolding is_reserved same_units
reserved-i = at_first (λ us. same_units us (codes "if") || same_units us (codes "implements") || same_units us (codes "import") || same_units us (codes "in") || same_units us (codes "instanceof") || same_units us (codes "interface") ≡ is_reserved us) 105 here
  where
    here : (r : Text) → same_units (105 ∷ r) (codes "if") || same_units (105 ∷ r) (codes "implements") || same_units (105 ∷ r) (codes "import") || same_units (105 ∷ r) (codes "in") || same_units (105 ∷ r) (codes "instanceof") || same_units (105 ∷ r) (codes "interface") ≡ is_reserved (105 ∷ r)
    here r = simp (or-assoc, or-false)

pub reserved-l : (us : Text) → 1 ≤ length us → get_or us 0 0 ≡ 108 → same_units us (codes "let") ≡ is_reserved us
unfolding is_reserved same_units
reserved-l = at_first (λ us. same_units us (codes "let") ≡ is_reserved us) 108 here
  where
    here : (r : Text) → same_units (108 ∷ r) (codes "let") ≡ is_reserved (108 ∷ r)
    here r = simp or-false

pub reserved-n : (us : Text) → 1 ≤ length us → get_or us 0 0 ≡ 110 → same_units us (codes "new") || same_units us (codes "null") ≡ is_reserved us
unfolding is_reserved same_units
reserved-n = at_first (λ us. same_units us (codes "new") || same_units us (codes "null") ≡ is_reserved us) 110 here
  where
    here : (r : Text) → same_units (110 ∷ r) (codes "new") || same_units (110 ∷ r) (codes "null") ≡ is_reserved (110 ∷ r)
    here r = simp or-false

pub reserved-p : (us : Text) → 1 ≤ length us → get_or us 0 0 ≡ 112 → same_units us (codes "package") || same_units us (codes "private") || same_units us (codes "protected") || same_units us (codes "public") ≡ is_reserved us
unfolding is_reserved same_units
reserved-p = at_first (λ us. same_units us (codes "package") || same_units us (codes "private") || same_units us (codes "protected") || same_units us (codes "public") ≡ is_reserved us) 112 here
  where
    here : (r : Text) → same_units (112 ∷ r) (codes "package") || same_units (112 ∷ r) (codes "private") || same_units (112 ∷ r) (codes "protected") || same_units (112 ∷ r) (codes "public") ≡ is_reserved (112 ∷ r)
    here r = simp (or-assoc, or-false)

pub reserved-r : (us : Text) → 1 ≤ length us → get_or us 0 0 ≡ 114 → same_units us (codes "return") ≡ is_reserved us
unfolding is_reserved same_units
reserved-r = at_first (λ us. same_units us (codes "return") ≡ is_reserved us) 114 here
  where
    here : (r : Text) → same_units (114 ∷ r) (codes "return") ≡ is_reserved (114 ∷ r)
    here r = simp or-false

pub reserved-s : (us : Text) → 1 ≤ length us → get_or us 0 0 ≡ 115 → same_units us (codes "static") || same_units us (codes "super") || same_units us (codes "switch") ≡ is_reserved us
unfolding is_reserved same_units
reserved-s = at_first (λ us. same_units us (codes "static") || same_units us (codes "super") || same_units us (codes "switch") ≡ is_reserved us) 115 here
  where
    here : (r : Text) → same_units (115 ∷ r) (codes "static") || same_units (115 ∷ r) (codes "super") || same_units (115 ∷ r) (codes "switch") ≡ is_reserved (115 ∷ r)
    here r = simp (or-assoc, or-false)

pub reserved-t : (us : Text) → 1 ≤ length us → get_or us 0 0 ≡ 116 → same_units us (codes "this") || same_units us (codes "throw") || same_units us (codes "true") || same_units us (codes "try") || same_units us (codes "typeof") ≡ is_reserved us
unfolding is_reserved same_units
reserved-t = at_first (λ us. same_units us (codes "this") || same_units us (codes "throw") || same_units us (codes "true") || same_units us (codes "try") || same_units us (codes "typeof") ≡ is_reserved us) 116 here
  where
    here : (r : Text) → same_units (116 ∷ r) (codes "this") || same_units (116 ∷ r) (codes "throw") || same_units (116 ∷ r) (codes "true") || same_units (116 ∷ r) (codes "try") || same_units (116 ∷ r) (codes "typeof") ≡ is_reserved (116 ∷ r)
    here r = simp (or-assoc, or-false)

pub reserved-v : (us : Text) → 1 ≤ length us → get_or us 0 0 ≡ 118 → same_units us (codes "var") || same_units us (codes "void") ≡ is_reserved us
unfolding is_reserved same_units
reserved-v = at_first (λ us. same_units us (codes "var") || same_units us (codes "void") ≡ is_reserved us) 118 here
  where
    here : (r : Text) → same_units (118 ∷ r) (codes "var") || same_units (118 ∷ r) (codes "void") ≡ is_reserved (118 ∷ r)
    here r = simp or-false

pub reserved-w : (us : Text) → 1 ≤ length us → get_or us 0 0 ≡ 119 → same_units us (codes "while") || same_units us (codes "with") ≡ is_reserved us
unfolding is_reserved same_units
reserved-w = at_first (λ us. same_units us (codes "while") || same_units us (codes "with") ≡ is_reserved us) 119 here
  where
    here : (r : Text) → same_units (119 ∷ r) (codes "while") || same_units (119 ∷ r) (codes "with") ≡ is_reserved (119 ∷ r)
    here r = simp or-false

pub reserved-y : (us : Text) → 1 ≤ length us → get_or us 0 0 ≡ 121 → same_units us (codes "yield") ≡ is_reserved us
unfolding is_reserved same_units
reserved-y = at_first (λ us. same_units us (codes "yield") ≡ is_reserved us) 121 here
  where
    here : (r : Text) → same_units (121 ∷ r) (codes "yield") ≡ is_reserved (121 ∷ r)
    here r = simp or-false

other : (u : ℕ) (r : Text) → u ≢ 97 → u ≢ 98 → u ≢ 99 → u ≢ 100 → u ≢ 101 → u ≢ 102 → u ≢ 105 → u ≢ 108 → u ≢ 110 → u ≢ 112 → u ≢ 114 → u ≢ 115 → u ≢ 116 → u ≢ 118 → u ≢ 119 → u ≢ 121 → is_reserved (u ∷ r) ≡ false
unfolding is_reserved same_units
other u r h97 h98 h99 h100 h101 h102 h105 h108 h110 h112 h114 h115 h116 h118 h119 h121 =
    simp (not_equal u 97 h97, not_equal u 98 h98, not_equal u 99 h99, not_equal u 100 h100, not_equal u 101 h101, not_equal u 102 h102, not_equal u 105 h105, not_equal u 108 h108, not_equal u 110 h110, not_equal u 112 h112, not_equal u 114 h114, not_equal u 115 h115, not_equal u 116 h116, not_equal u 118 h118, not_equal u 119 h119, not_equal u 121 h121) refl

pub reserved-other : (us : Text) → 1 ≤ length us → get_or us 0 0 ≢ 97 → get_or us 0 0 ≢ 98 → get_or us 0 0 ≢ 99 → get_or us 0 0 ≢ 100 → get_or us 0 0 ≢ 101 → get_or us 0 0 ≢ 102 → get_or us 0 0 ≢ 105 → get_or us 0 0 ≢ 108 → get_or us 0 0 ≢ 110 → get_or us 0 0 ≢ 112 → get_or us 0 0 ≢ 114 → get_or us 0 0 ≢ 115 → get_or us 0 0 ≢ 116 → get_or us 0 0 ≢ 118 → get_or us 0 0 ≢ 119 → get_or us 0 0 ≢ 121 → is_reserved us ≡ false
reserved-other [] l h97 h98 h99 h100 h101 h102 h105 h108 h110 h112 h114 h115 h116 h118 h119 h121 = Prim.absurd (omega arith)
reserved-other (u ∷ r) l h97 h98 h99 h100 h101 h102 h105 h108 h110 h112 h114 h115 h116 h118 h119 h121 = other u r h97 h98 h99 h100 h101 h102 h105 h108 h110 h112 h114 h115 h116 h118 h119 h121
