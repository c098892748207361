use Rattle.std.proofs.Common.{◌≡◌, ◌<◌, ◌-◌, ℕ, List, length, slice_get, Some, None, refl, sym, arith}
use Rattle.std.proofs.lemmas.Bool.{ltb-true, ltb-false}
use Rattle.std.proofs.lemmas.Option.{slice_get_read, slice_get_past}
use Rattle.actx_value.proofs.IndexLemmas.{least_there, least_past}
use Rattle.actx_value.proofs.texts.Texts.least.Goals as goal

pub returns-in-Some : goal.returns-in-Some
returns-in-Some c =
    let places : List ℕ = c.self.inside.places.items in
    let firsts : List ℕ = c.self.inside.firsts.items in
    let p : ℕ = c.in-Some.place.now in
    let found = rw c.deref.ensures.value at c.in-Some.ensures.lookup in
    let at : slice_get places (c.args.t.0 - 1) ≡ Some p = slice_get_read places (length places) (c.args.t.0 - 1) p refl (ltb-true _ _ (sym found.0)) found.1 in
    let less : p < length firsts = omega (arith, c.self.invariant.as_long, c.self.invariant.within (c.args.t.0 - 1) p at) in
    let first : slice_get firsts p ≡ Some c.index.result.now = slice_get_read firsts (length firsts) p c.index.result.now refl less c.index.ensures in
    rw (← c.self.view_is) (sym (least_there c.self.invariant c.len-distinct.ensures.unique c.args.t.0 p c.index.result.now c.if-t-eq0.false at first))

pub returns-in-None : goal.returns-in-None
returns-in-None c =
    let places : List ℕ = c.self.inside.places.items in
    let missed = rw c.deref.ensures.value at c.in-None.ensures.lookup in
    let at : slice_get places (c.args.t.0 - 1) ≡ None = slice_get_past places (c.args.t.0 - 1) (ltb-false _ _ (sym missed.0)) in
    rw (← c.self.view_is) (sym (least_past c.self.invariant c.args.t.0 c.if-t-eq0.false at))
