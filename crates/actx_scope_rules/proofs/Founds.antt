-- What a name means in what is left of a list of scopes, which are kept from the outside in.
use Rattle.std.proofs.Common.{◌≡◌, ℕ, ◌+◌, ◌-◌, ◌<◌, ◌≤◌, Bool, false, List, [], length, get_or, drop, sym, ap, ◌∙◌, Option, Some, None}
use Rattle.std.specs.Prelude.{reverse}
use Rattle.std.proofs.lemmas.List.{get_or-reverse, length-reverse}
use Rattle.actx_text.specs.declared.units.Units.{Units}
use Rattle.actx_scope_rules.specs.declared.slot.Found.{Found}
use Rattle.actx_scope_rules.specs.Scopes.{Scope, last_slot, found_from, found_at, found_or}
use Rattle.actx_scope_rules.proofs.Lists.{left, done}

-- ---- the scope so many scopes out

there : (ts : List Scope) (i : ℕ) → i < length ts → i < length (reverse ts)
there ts i h = rw (length-reverse ts) h

found-left : (name : Units) (ts : List Scope) (i : ℕ) (t : Scope) → i < length ts → t ≡ get_or ts (length ts - 1 - i) t
    → found_from name (drop i (reverse ts)) i ≡ found_or (last_slot name t 0) i (found_from name (drop (i + 1) (reverse ts)) (i + 1))
unfolding found_from
found-left name ts i t h e = ap (λ z. found_from name z i) (left (reverse ts) i t (there ts i h) (e ∙ sym (get_or-reverse ts i t h)))

pub found_met : (name : Units) (ts : List Scope) (i : ℕ) (t : Scope) (x : ℕ × Bool) (whole : Option Found) → i < length ts → t ≡ get_or ts (length ts - 1 - i) t → Some x ≡ last_slot name t 0
    → found_from name (drop i (reverse ts)) i ≡ whole → Some (found_at i false x) ≡ whole
found_met name ts i t x whole h e is keeps =
    ap (λ z. found_or z i (found_from name (drop (i + 1) (reverse ts)) (i + 1))) is ∙ (sym (found-left name ts i t h e) ∙ keeps)

pub found_further : (name : Units) (ts : List Scope) (i : ℕ) (t : Scope) (whole : Option Found) → i < length ts → t ≡ get_or ts (length ts - 1 - i) t → None ≡ last_slot name t 0
    → found_from name (drop i (reverse ts)) i ≡ whole → found_from name (drop (i + 1) (reverse ts)) (i + 1) ≡ whole
found_further name ts i t whole h e is keeps =
    ap (λ z. found_or z i (found_from name (drop (i + 1) (reverse ts)) (i + 1))) is ∙ (sym (found-left name ts i t h e) ∙ keeps)

-- ---- outside of all scopes

pub found_outside : (name : Units) (ts : List Scope) (i : ℕ) (whole : Option Found) → length ts ≤ i → found_from name (drop i (reverse ts)) i ≡ whole → found_from name [] i ≡ whole
found_outside name ts i whole h keeps = sym (ap (λ z. found_from name z i) (done (reverse ts) i (rw (length-reverse ts) h))) ∙ keeps
