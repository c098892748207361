-- Steps of loops over lists of parts.
use Rattle.std.proofs.Common.{◌≡◌, ℕ, ◌+◌, ◌<◌, ◌≤◌, Bool, true, false, ◌||◌, List, [], ◌∷◌, ◌++◌, length, get_or, map, drop, refl, sym, ap, ◌∙◌, append_assoc}
use Rattle.std.proofs.lemmas.List.{append-nil}
use Rattle.std.proofs.Math.ListN.{drop_of_length-le}
use Rattle.std.proofs.lemmas.List.{drop_more}
use Rattle.actx_tree.specs.declared.expr.Entry.{Entry}
use Rattle.actx_tree.specs.declared.expr.Suffix.{Suffix}
use Rattle.actx_scope_rules.specs.Words.{is_word, proto_word}
use Rattle.actx_scope_rules.specs.Nodes.{last_is_member, suffix_part, entry_part, word_of}
use Rattle.actx_scope_rules.specs.Conditions.{has_bad_key}

-- what is left of a list at one of its members
pub left : {X : Type 0} (xs : List X) (i : ℕ) (x : X) → i < length xs → x ≡ get_or xs i x → drop i xs ≡ x ∷ drop (i + 1) xs
left xs i x h e = drop_more xs i x h ∙ ap (λ z. z ∷ drop (i + 1) xs) (sym e)

-- nothing is left at its end
pub done : {X : Type 0} (xs : List X) (i : ℕ) → length xs ≤ i → drop i xs ≡ []
done xs i h = drop_of_length-le xs h

-- ---- chains

abbrev pub ends : Bool → List Suffix → Bool
ends b xs = last_is_member b (map suffix_part xs)

-- ---- keys

abbrev pub bad_key : List Entry → Bool
bad_key xs = has_bad_key (map word_of (map entry_part xs))

pub bad_key-left : (xs : List Entry) (i : ℕ) (x : Entry) → i < length xs → x ≡ get_or xs i x → bad_key (drop i xs) ≡ (is_word proto_word (entry_part x).word || bad_key (drop (i + 1) xs))
unfolding has_bad_key
bad_key-left xs i x h e = ap (λ z. bad_key z) (left xs i x h e)

pub bad_key-met : (xs : List Entry) (i : ℕ) (x : Entry) (b whole : Bool) → i < length xs → x ≡ get_or xs i x → b ≡ is_word proto_word (entry_part x).word → b ≡ true
    → bad_key (drop i xs) ≡ whole → true ≡ whole
bad_key-met xs i x b whole h e is yes_it_is keeps = let t : is_word proto_word (entry_part x).word ≡ true = sym is ∙ yes_it_is in
    sym (ap (λ z. z || bad_key (drop (i + 1) xs)) t) ∙ (sym (bad_key-left xs i x h e) ∙ keeps)

pub bad_key-more : (xs : List Entry) (i : ℕ) (x : Entry) (b whole : Bool) → i < length xs → x ≡ get_or xs i x → b ≡ is_word proto_word (entry_part x).word → b ≡ false
    → bad_key (drop i xs) ≡ whole → bad_key (drop (i + 1) xs) ≡ whole
bad_key-more xs i x b whole h e is not_it keeps = let t : is_word proto_word (entry_part x).word ≡ false = sym is ∙ not_it in
    sym (ap (λ z. z || bad_key (drop (i + 1) xs)) t) ∙ (sym (bad_key-left xs i x h e) ∙ keeps)

pub bad_key-done : (xs : List Entry) (i : ℕ) (whole : Bool) → length xs ≤ i → bad_key (drop i xs) ≡ whole → false ≡ whole
unfolding has_bad_key
bad_key-done xs i whole h keeps = sym (ap (λ z. bad_key z) (done xs i h)) ∙ keeps

-- ---- lists that grow

-- an item more
pub more : {B : Type 0} (before after was item rest all : List B) → after ≡ before ++ item → all ≡ item ++ rest → before ++ all ≡ was → after ++ rest ≡ was
more before after was item rest all step split whole = ap (λ z. z ++ rest) step ∙ (append_assoc before item rest ∙ (ap (λ z. before ++ z) (sym split) ∙ whole))

-- all of them
pub finished : {B : Type 0} (found rest whole : List B) → rest ≡ [] → found ++ rest ≡ whole → found ≡ whole
finished found rest whole none whole_is = sym (append-nil found) ∙ (ap (λ z. found ++ z) (sym none) ∙ whole_is)

pub or-assoc : (a b c : Bool) → ((a || b) || c) ≡ (a || (b || c))
or-assoc true b c = refl
or-assoc false b c = refl
