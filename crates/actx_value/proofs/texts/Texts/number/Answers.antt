use Rattle.std.proofs.Common.{◌≡◌, ◌≢◌, ◌<◌, ◌∷◌, ◌∙◌, ℕ, List, [], length, get_or, slice_get, position, Some, None, refl, sym, ap, arith}
use Rattle.std.proofs.lemmas.Bool.{eq-eqb, true≢false}
use Rattle.std.proofs.lemmas.List.Quantifiers.{position-Some}
use Rattle.std.proofs.lemmas.Option.{slice_get_read}
use Rattle.std.specs.Cmp.Lexicographic.{bytes_decides}
use Rattle.actx_value.specs.Texts.{texts_eq, number_of}
use Rattle.actx_value.specs.TextIndex.{texts_in}
use Rattle.actx_value.proofs.Positions.{position-missed}
use Rattle.actx_value.proofs.IndexLemmas.{number_at, number_none}
use Rattle.actx_value.proofs.texts.Texts.number.Goals as goal

pub returns-in-Some : goal.returns-in-Some
returns-in-Some c =
    let keys : List (List ℕ) = c.self.inside.distinct.keys in
    let firsts : List ℕ = c.self.inside.firsts.items in
    let text : List ℕ = c.args.text.now in
    let d : ℕ = c.in-Some.place in
    let found : position (texts_eq text) keys ≡ Some d = sym (rw c.as_slice-words.ensures.keys at c.in-Some.ensures) in
    let s = position-Some (texts_eq text) keys d [] found in
    let same : text ≡ get_or keys d [] = (bytes_decides text (get_or keys d [])).0 s.1 in
    let within : d < length keys = s.0 in
    let first : slice_get firsts d ≡ Some c.index.result.now = slice_get_read firsts (length firsts) d c.index.result.now refl (omega (arith, c.self.invariant.as_long)) c.index.ensures in
    rw (← c.self.view_is) (sym (ap (number_of (c.self.inside.empty ∷ texts_in keys c.self.inside.places.items)) same ∙ number_at keys c.as_slice-words.ensures.unique c.self.invariant d within ∙ first))

pub returns-in-None : goal.returns-in-None
returns-in-None c =
    let keys : List (List ℕ) = c.self.inside.distinct.keys in
    let text : List ℕ = c.args.text.now in
    let far : text ≢ [] = λ e. true≢false (sym (eq-eqb (length text) 0 (ap length e)) ∙ sym c.is_empty.ensures ∙ c.if-is_empty.false) in
    let missed : position (texts_eq text) keys ≡ None = sym (rw c.as_slice-words.ensures.keys at c.in-None.ensures) in
    rw (← c.self.view_is) (sym (number_none keys c.as_slice-words.ensures.unique c.self.invariant text far (λ k less. position-missed (texts_eq text) keys k [] missed less)))
