-- Numbers and least numbers of any list of texts.
use Rattle.std.proofs.Common.{nat_lt, ◌≤◌, ◌≡◌, ℕ, ◌<◌, Bool, true, false, List, [], ◌∷◌, ◌++◌, length, get_or, unwrap_or, Option, Some, None, refl, sym, ap, ◌∙◌}
use Rattle.std.proofs.lemmas.Bool.{ltb-true, ltb-false, true≢false}
use Rattle.std.proofs.lemmas.List.{get_or_append_left, get_or_past}
use Rattle.std.proofs.lemmas.List.Quantifiers.{position-Some}
use Rattle.std.proofs.lemmas.Option.{slice_get_within, get_or_from_slice_get}
use Rattle.std.specs.Cmp.Lexicographic.{bytes_decides}
use Rattle.actx_value.specs.Texts.{texts_eq, text_at, number_of, least_number, HasOneEmptyText}
use Rattle.actx_value.specs.Laws.{TellsTexts, Keeps}
use Rattle.actx_value.proofs.Positions.{position-missed, position-push-found}

-- a text that is there has a number, whose text it is
record HasNumber (texts : List (List ℕ)) (text : List ℕ) : Type 0 where
  pub number : ℕ
  pub given : number_of texts text ≡ Some number
  pub is : text_at texts number ≡ text

has_number : (texts : List (List ℕ)) (text : List ℕ) (i : ℕ) → i < length texts → text ≡ text_at texts i → HasNumber texts text
has_number texts text i within same = by (number_of texts text) refl
  where
    by : (o : Option ℕ) → number_of texts text ≡ o → HasNumber texts text
    by None e = absurd (true≢false (sym ((bytes_decides text (get_or texts i [])).1 same) ∙ position-missed (texts_eq text) texts i [] e within))
    by (Some k) e =
        let s = position-Some (texts_eq text) texts k [] e in
        record { number = k; given = e; is = sym ((bytes_decides text (get_or texts k [])).0 s.1) }

-- so has the text of any number, where the empty text is there
text_has_number : (texts : List (List ℕ)) → HasOneEmptyText texts → (a : ℕ) → HasNumber texts (text_at texts a)
text_has_number texts one a = by (nat_lt a (length texts)) refl
  where
    by : (b : Bool) → nat_lt a (length texts) ≡ b → HasNumber texts (text_at texts a)
    by true e = has_number texts (text_at texts a) a (ltb-true a (length texts) e) refl
    by false e =
        let past : length texts ≤ a = ltb-false a (length texts) e in
        let first : text_at texts 0 ≡ [] = get_or_from_slice_get texts 0 [] [] one.first in
        has_number texts (text_at texts a) 0 (slice_get_within texts 0 [] one.first) (get_or_past texts a [] past ∙ sym first)

least_text : (texts : List (List ℕ)) → HasOneEmptyText texts → (a : ℕ) → text_at texts (least_number texts a) ≡ text_at texts a
least_text texts one a =
    let h : HasNumber texts (text_at texts a) = text_has_number texts one a in
    ap (λ o. text_at texts (unwrap_or o 0)) h.given ∙ h.is

pub tells : (texts : List (List ℕ)) → HasOneEmptyText texts → TellsTexts texts
tells texts one = record {
  same = λ a b. (
    λ e. sym (least_text texts one a) ∙ ap (text_at texts) e ∙ least_text texts one b,
    λ e. ap (λ w. unwrap_or (number_of texts w) 0) e,
  );
  text = least_text texts one;
}

pub keeps : (texts : List (List ℕ)) (text : List ℕ) (t : ℕ) → t < length texts → Keeps texts (texts ++ text ∷ []) t
keeps texts text t within =
    let same : text_at (texts ++ text ∷ []) t ≡ text_at texts t = get_or_append_left texts (text ∷ []) [] t within in
    let h : HasNumber texts (text_at texts t) = has_number texts (text_at texts t) t within refl in
    record {
      text = same;
      least = ap (λ w. unwrap_or (number_of (texts ++ text ∷ []) w) 0) same
          ∙ ap (λ o. unwrap_or o 0) (position-push-found (texts_eq (text_at texts t)) texts text h.number h.given ∙ sym h.given);
    }
