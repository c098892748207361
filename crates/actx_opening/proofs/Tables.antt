-- The tables of the code are those that the definitions say.
use Rattle.std.proofs.Common.{◌≡◌, true, ℕ, List, [], ◌∷◌, codes, refl, sym, ap, ◌∙◌}
use Rattle.std.proofs.lemmas.List.Sums.{fold-append}
use Rattle.std.specs.List.{fold}
use Rattle.actx_value.specs.Texts.{TextStore}
use Rattle.actx_objects.specs.Objects.{ObjectStore}
use Rattle.actx_opening.specs.declared.words.TheConstants.{WORDS}
use Rattle.actx_opening.specs.declared.starts.TheConstants.{STARTS}
use Rattle.actx_opening.specs.declared.held.TheConstants.{HELD}
use Rattle.actx_opening.specs.declared.named.TheConstants.{NAMED}
use Rattle.actx_opening.specs.Words.{words, lines_from}
use Rattle.actx_opening.specs.Texts.{added}
use Rattle.actx_opening.specs.Starts.{starts, started, with_protos}
use Rattle.actx_opening.specs.Members.{held, named, members, with_member}
use Rattle.actx_opening.specs.Opening.{filled, are_apart, is_apart}

pub words_are : codes "length" ∷ lines_from [] WORDS ≡ words
unfolding words
words_are = refl

pub starts_are : STARTS ≡ starts
unfolding starts
starts_are = refl

pub held_are : HELD ≡ held
unfolding held words
held_are = refl

pub named_are : NAMED ≡ named
unfolding named words
named_are = refl

-- the words after the first one
pub words_added : (s t u : TextStore) → t ≡ record { texts = added s.texts (codes "length"); limit = s.limit } → u ≡ record { texts = fold added t.texts (lines_from [] WORDS); limit = t.limit }
    → u ≡ record { texts = fold added s.texts words; limit = s.limit }
words_added s t u h k =
    k ∙ ap (λ (x : TextStore). let y : TextStore = record { texts = fold added x.texts (lines_from [] WORDS); limit = x.limit } in y) h
    ∙ ap (λ (ws : List (List ℕ)). let y : TextStore = record { texts = fold added s.texts ws; limit = s.limit } in y) words_are

-- the objects with their properties
pub filled_are : (texts : List (List ℕ)) (first : ℕ) (s t p u : ObjectStore) → t ≡ fold started s STARTS → p ≡ with_protos 0 STARTS t → u ≡ fold (with_member texts first) p HELD
    → fold (with_member texts first) u NAMED ≡ filled texts first s
unfolding filled
filled_are texts first s t p u h g k =
    ap (λ z. fold (with_member texts first) z NAMED) k
    ∙ ap (λ z. fold (with_member texts first) (fold (with_member texts first) z HELD) NAMED) (g ∙ ap (λ z. with_protos 0 STARTS z) h ∙ ap (λ ss. with_protos 0 ss (fold started s ss)) starts_are)
    ∙ ap (λ ms. fold (with_member texts first) (fold (with_member texts first) (with_protos 0 starts (fold started s starts)) ms) NAMED) held_are
    ∙ ap (λ ms. fold (with_member texts first) (fold (with_member texts first) (with_protos 0 starts (fold started s starts)) held) ms) named_are
    ∙ sym (fold-append (with_member texts first) (with_protos 0 starts (fold started s starts)) held named)

pub all_apart : are_apart members ≡ true
unfolding are_apart is_apart held named words
all_apart = refl
