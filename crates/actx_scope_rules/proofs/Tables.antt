-- Maps from names to places, as lists of their entries.
use Rattle.std.proofs.Common.{◌≡◌, ℕ, Bool, true, false, cond, refl, sym, ap, ◌∙◌, List, [], ◌∷◌, Option, Some, None}
use Rattle.std.specs.Prelude.{if◌then◌else◌, nat_eq}
use Rattle.std.specs.Cmp.Lexicographic.{pointwise}
use Rattle.std.specs.Map.{lookup}
use Rattle.std.specs.Global.{Global}
use Rattle.std.specs.declared.vec.Vec.{Vec}
use Rattle.std.proofs.lemmas.Cmp.{nat_list_eq_equiv}
use Rattle.indexmap.specs.IndexMap.{IndexMap, insert_entry}
use Rattle.actx_text.specs.declared.units.Units.{Units}
use Rattle.actx_scope_rules.specs.Scopes.{or_else}
use Rattle.actx_scope_rules.specs.Words.{same_units, is_word}
use Rattle.actx_scope_rules.specs.Tables.{at_name}
use Rattle.actx_scope_rules.proofs.Units.{pointwise-same}

abbrev pub same : Units → Units → Bool
same a b = pointwise nat_eq a b

-- ---- a key more: its value is found at the same name, and all else is found as before

both_ways : {X : Type 0} (b c : Bool) (v w : X) (rest : Option X) → b ≡ c → cond b (Some v) rest ≡ cond c (Some v) (cond b (Some w) rest)
both_ways true true v w rest e = refl
both_ways false false v w rest e = refl
both_ways true false v w rest e = (cc)
both_ways false true v w rest e = (cc)

either_way : {X : Type 0} (b c : Bool) (v w : X) (rest : Option X) → (b ≡ true → c ≡ true → ⊥) → cond b (Some w) (cond c (Some v) rest) ≡ cond c (Some v) (cond b (Some w) rest)
either_way true true v w rest f = absurd (f refl refl)
either_way true false v w rest f = refl
either_way false true v w rest f = refl
either_way false false v w rest f = refl

alike : (k e name : Units) → same k e ≡ true → same name e ≡ same name k
alike k e name h = nat_list_eq_equiv.symm name e ∙ (sym (nat_list_eq_equiv.congr k e name h) ∙ nat_list_eq_equiv.symm k name)

apart : (k e name : Units) → same k e ≡ false → same name e ≡ true → same name k ≡ true → ⊥
apart k e name h p q = let t : true ≡ same e k = sym q ∙ nat_list_eq_equiv.congr name e k p in let u : same e k ≡ false = nat_list_eq_equiv.symm e k ∙ h in (cc)

module _ {X : Type 0} where
  abbrev pub found : Units → List (Vec ℕ Global × X) → Option X
  found name es = lookup (λ (k : Vec ℕ Global). same name k.items) es

  abbrev pub put : List (Vec ℕ Global × X) → Vec ℕ Global → X → List (Vec ℕ Global × X)
  put es key v = insert_entry (λ (a b : Vec ℕ Global). same a.items b.items) es key v

  one_more : (d : Bool) (e : Vec ℕ Global × X) (es : List (Vec ℕ Global × X)) (key : Vec ℕ Global) (v : X) (name : Units) → same key.items e.0.items ≡ d → found name (put es key v) ≡ cond (same name key.items) (Some v) (found name es)
      → found name (if d then (e.0, v) ∷ es else e ∷ put es key v) ≡ cond (same name key.items) (Some v) (found name (e ∷ es))
  one_more true e es key v name h rest = both_ways (same name e.0.items) (same name key.items) v e.1 (found name es) (alike key.items e.0.items name h)
  one_more false e es key v name h rest = ap (λ z. cond (same name e.0.items) (Some e.1) z) rest ∙ either_way (same name e.0.items) (same name key.items) v e.1 (found name es) (apart key.items e.0.items name h)

  pub put_found : (es : List (Vec ℕ Global × X)) (key : Vec ℕ Global) (v : X) (name : Units) → found name (put es key v) ≡ cond (same name key.items) (Some v) (found name es)
  put_found [] key v name = refl
  put_found (e ∷ es) key v name = one_more (same key.items e.0.items) e es key v name refl (put_found es key v name)

-- ---- slots of names

as_slot : (b : Bool) (x : ℕ × Bool) (old : Option (ℕ × Bool)) → cond b (Some x) old ≡ or_else (if b then Some x else None) old
as_slot true x old = refl
as_slot false x old = refl

-- a name is put: at each name the map has that slot, or else what it had
pub noted : {S : Type 0} (m n : IndexMap (Vec ℕ Global) (ℕ × Bool) S) (key : Vec ℕ Global) (word name : Units) (x : ℕ × Bool) → key.items ≡ word → n.entries ≡ put m.entries key x
    → at_name n name ≡ or_else (if same_units name word then Some x else None) (at_name m name)
noted m n key word name x k e = ap (λ z. found name z) e
    ∙ (put_found m.entries key x name
    ∙ (ap (λ z. cond z (Some x) (found name m.entries)) (ap (λ z. same name z) k ∙ pointwise-same name word)
    ∙ as_slot (same_units name word) x (found name m.entries)))

or_else_none : (x : Option (ℕ × Bool)) → or_else x None ≡ x
or_else_none None = refl
or_else_none (Some x) = refl

-- a map without entries adds nothing
pub empty_adds : {S : Type 0} (m : IndexMap (Vec ℕ Global) (ℕ × Bool) S) (name : Units) (x : Option (ℕ × Bool)) → m.entries ≡ [] → or_else x (at_name m name) ≡ x
empty_adds m name x e = ap (λ z. or_else x (found name z)) e ∙ or_else_none x

-- a slot without a name adds nothing
pub nameless : (name : Units) (word : Option Units) (x : ℕ × Bool) (old : Option (ℕ × Bool)) → word ≡ None → old ≡ or_else (if is_word name word then Some x else None) old
nameless name word x old e = ap (λ z. or_else (if is_word name z then Some x else None) old) (sym e)
