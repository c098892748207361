use Rattle.std.proofs.Common.{not, ◌≡◌, ◌<◌, ◌≤◌, ◌+◌, ◌∷◌, ◌++◌, ◌∙◌, ℕ, cond, List, [], length, slice_get, Some, sym, ap, arith}
use Rattle.std.specs.Cmp.Lexicographic.{bytes_decides}
use Rattle.std.specs.List.{list_any}
use Rattle.actx_value.specs.Texts.{texts_eq, TextStore}
use Rattle.actx_value.proofs.AddLemmas.{added_is, with_text_filled}
use Rattle.actx_value.proofs.texts.Texts.add.Goals as goal

pub invariant_of-self-2 : goal.invariant_of-self-2
invariant_of-self-2 c =
    let text : List ℕ = c.args.t in
    let q : ℕ = c.in_ok-place.place in
    let keys : List (List ℕ) = c.self.inside.distinct.keys in
    let more : List (List ℕ) = c.insert_full.new.self.keys in
    let filled : 0 < length text = omega arith in
    let room : c.self.inside.total + length text ≤ c.self.inside.limit = omega arith in
    let stored = rw c.new.ensures at c.in_ok-place.ensures.stored in
    let at : slice_get more q ≡ Some text = stored.1 ∙ ap Some (sym ((bytes_decides text stored.0).0 stored.2)) in
    let fresh : c.in_ok-place.added ≡ not (list_any (texts_eq text) keys) = rw c.new.ensures at c.in_ok-place.ensures.added in
    let keys_are : more ≡ cond (list_any (texts_eq text) keys) keys (keys ++ text ∷ []) = rw c.new.ensures at c.in_ok-place.ensures.keys in
    let a = added_is c.self.invariant text q filled room more c.in_ok-place.added fresh keys_are at in
    rw (c.note_number-number.ensures.places, c.note_number-number.ensures.firsts, c.in_ok-reserve.ensures.items, c.in_ok-reserve-2.ensures.items, c.len-units.ensures) a.index

pub returns-clause-ok : goal.returns-clause-ok
returns-clause-ok c =
    let text : List ℕ = c.args.t in
    let q : ℕ = c.in_ok-place.place in
    let keys : List (List ℕ) = c.self.inside.distinct.keys in
    let more : List (List ℕ) = c.insert_full.new.self.keys in
    let filled : 0 < length text = omega arith in
    let room : c.self.inside.total + length text ≤ c.self.inside.limit = omega arith in
    let stored = rw c.new.ensures at c.in_ok-place.ensures.stored in
    let at : slice_get more q ≡ Some text = stored.1 ∙ ap Some (sym ((bytes_decides text stored.0).0 stored.2)) in
    let fresh : c.in_ok-place.added ≡ not (list_any (texts_eq text) keys) = rw c.new.ensures at c.in_ok-place.ensures.added in
    let keys_are : more ≡ cond (list_any (texts_eq text) keys) keys (keys ++ text ∷ []) = rw c.new.ensures at c.in_ok-place.ensures.keys in
    let a = added_is c.self.invariant text q filled room more c.in_ok-place.added fresh keys_are at in
    let whole : List (List ℕ) → TextStore = λ ts. record { texts = c.self.inside.empty ∷ ts; limit = c.self.inside.limit } in
    rw (← c.self.view_is, with_text_filled _ _ filled, c.note_number-number.ensures.places, c.in_ok-reserve.ensures.items) (ap whole a.texts)
