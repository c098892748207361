-- One more literal is added, and the last one was.
use Rattle.std.proofs.Common.{◌≡◌, ℕ, suc, ◌+◌, List, [], ◌∷◌, drop, slice_get, Some, None, sym, ap, ◌∙◌, inl, inr, arith}
use Rattle.std.proofs.Math.Seq.{drop-cons}
use Rattle.std.proofs.Math.ListN.{drop_of_length-le}
use Rattle.std.proofs.lemmas.Option.{slice_get_within, get_or_from_slice_get, slice_get_cases, none-some}
use Rattle.std.specs.List.{fold}
use Rattle.actx_value.specs.Texts.{TextStore}
use Rattle.actx_opening.specs.Texts.{added}

drop_read : (ls : List (List ℕ)) (i : ℕ) (x : List ℕ) → slice_get ls i ≡ Some x → drop i ls ≡ x ∷ drop (suc i) ls
drop_read ls i x h = drop-cons ls i x (slice_get_within ls i x h) ∙ ap (λ y. y ∷ drop (suc i) ls) (get_or_from_slice_get ls i x x h)

drop_past : (ls : List (List ℕ)) (i : ℕ) → slice_get ls i ≡ None → drop i ls ≡ []
drop_past ls i h = elim (slice_get_cases ls i).1 [ inl p ↦ absurd (none-some p.0 (sym h ∙ p.2)) | inr p ↦ drop_of_length-le ls p.0 ]

pub literal_added : (ls : List (List ℕ)) (s t : TextStore) (i j : ℕ) (x y : List ℕ) → Some x ≡ slice_get ls i → y ≡ x → t ≡ record { texts = added s.texts y; limit = s.limit } → j ≡ i + 1
    → fold added t.texts (drop j ls) ≡ fold added s.texts (drop i ls)
literal_added ls s t i j x y read same is next =
    let e : j ≡ suc i = omega arith in
    ap (λ (u : TextStore). fold added u.texts (drop j ls)) is
    ∙ ap (λ z. fold added (added s.texts z) (drop j ls)) same
    ∙ ap (λ k. fold added (added s.texts x) (drop k ls)) e
    ∙ ap (λ zs. fold added s.texts zs) (sym (drop_read ls i x (sym read)))

pub all_added : (ls : List (List ℕ)) (t : TextStore) (i : ℕ) (all : List (List ℕ)) → None ≡ slice_get ls i → fold added t.texts (drop i ls) ≡ all → t.texts ≡ all
all_added ls t i all past h = ap (λ zs. fold added t.texts zs) (sym (drop_past ls i (sym past))) ∙ h

pub stored : (t : TextStore) (texts : List (List ℕ)) (limit : ℕ) → t.texts ≡ texts → t.limit ≡ limit → t ≡ record { texts = texts; limit = limit }
stored t texts limit h k = ap (λ (x : List (List ℕ)). let u : TextStore = record { texts = x; limit = t.limit } in u) h ∙ ap (λ (n : ℕ). let u : TextStore = record { texts = texts; limit = n } in u) k
