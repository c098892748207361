-- The numbers of texts in the opening store.
use Rattle.std.proofs.Common.{◌≡◌, ℕ, ◌+◌, ◌<◌, Bool, true, false, cond, ◌||◌, ◌&&◌, nat_lt, List, [], ◌∷◌, ◌++◌, length, All, Some, is_some, refl, sym, ap, ◌∙◌, append_assoc, true≢false, arith}
use Rattle.std.proofs.lemmas.Bool.{ltb-true}
use Rattle.std.proofs.lemmas.Iterator.Adapters.{position_from-zero}
use Rattle.std.proofs.lemmas.List.{append-nil}
use Rattle.std.proofs.lemmas.List.Elements.{All-head, All-tail, All-nil, All-cons}
use Rattle.std.proofs.lemmas.List.Folds.{list_any-append}
use Rattle.std.specs.List.{fold, list_all, list_any, position_from}
use Rattle.actx_value.specs.Texts.{texts_eq, number_of}
use Rattle.actx_opening.specs.Words.{words}
use Rattle.actx_opening.specs.Texts.{added, with_literals, opening_texts}

-- texts that aren't empty go one after another behind those that are there
pub added_all : (ws texts : List (List ℕ)) → All (λ w. 0 < length w) ws → fold added texts ws ≡ texts ++ ws
unfolding added
added_all [] texts all = sym (append-nil texts)
added_all ([] ∷ ws) texts all = absurd (let h : 0 < 0 = All-head (λ (w : List ℕ). 0 < length w) [] ws all in omega arith)
added_all ((u ∷ us) ∷ ws) texts all =
    added_all ws (texts ++ (u ∷ us) ∷ []) (All-tail (λ (w : List ℕ). 0 < length w) (u ∷ us) ws all)
    ∙ append_assoc texts ((u ∷ us) ∷ []) ws

all_from : (ws : List (List ℕ)) → list_all (λ w. nat_lt 0 (length w)) ws ≡ true → All (λ w. 0 < length w) ws
all_from [] h = All-nil (λ (w : List ℕ). 0 < length w)
all_from (w ∷ ws) h = by (nat_lt 0 (length w)) refl h (all_from ws)
  where
    by : (b : Bool) → nat_lt 0 (length w) ≡ b → (b && list_all (λ v. nat_lt 0 (length v)) ws) ≡ true → (list_all (λ v. nat_lt 0 (length v)) ws ≡ true → All (λ v. 0 < length v) ws) → All (λ v. 0 < length v) (w ∷ ws)
    by true e j more = All-cons (λ (v : List ℕ). 0 < length v) w ws (ltb-true 0 (length w) e) (more j)
    by false e j more = absurd (true≢false (sym j))

pub none_empty : All (λ w. 0 < length w) words
unfolding words
none_empty = all_from words refl

pub in_order : (literals : List (List ℕ)) → All (λ t. 0 < length t) literals → opening_texts literals ≡ ([] ∷ literals) ++ words
in_order literals all = added_all words (with_literals literals) none_empty ∙ ap (λ ts. ts ++ words) (added_all literals ([] ∷ []) all)

-- a text that is somewhere is found
found_from : (p : List ℕ → Bool) (i : ℕ) (ts : List (List ℕ)) → list_any p ts ≡ true → is_some (position_from p i ts) ≡ true
found_from p i [] h = absurd (true≢false (sym h))
found_from p i (t ∷ ts) h = by (p t) h (found_from p (i + 1) ts)
  where
    by : (b : Bool) → (b || list_any p ts) ≡ true → (list_any p ts ≡ true → is_some (position_from p (i + 1) ts) ≡ true) → is_some (cond b (Some i) (position_from p (i + 1) ts)) ≡ true
    by true j more = refl
    by false j more = more j

or_true : (b c : Bool) → c ≡ true → (b || c) ≡ true
or_true true c h = refl
or_true false c h = h

pub word_found : (literals : List (List ℕ)) (w : List ℕ) → list_any (texts_eq w) words ≡ true → is_some (number_of (opening_texts literals) w) ≡ true
word_found literals w h =
    let e : opening_texts literals ≡ with_literals literals ++ words = added_all words (with_literals literals) none_empty in
    let any : list_any (texts_eq w) (opening_texts literals) ≡ true = ap (list_any (texts_eq w)) e ∙ list_any-append (texts_eq w) (with_literals literals) words ∙ or_true (list_any (texts_eq w) (with_literals literals)) (list_any (texts_eq w) words) h in
    ap is_some (position_from-zero (texts_eq w) (opening_texts literals)) ∙ found_from (texts_eq w) 0 (opening_texts literals) any
