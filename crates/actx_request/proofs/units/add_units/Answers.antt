use Rattle.std.proofs.Common.{◌≡◌, ◌∙◌, ℕ, ◌+◌, ◌<◌, ◌≤◌, ◌++◌, ◌∷◌, [], List, Err, refl, sym, ap, length, take, get_or, add-one, arith}
use Rattle.std.proofs.Math.Seq.{take-suc}
use Rattle.std.proofs.lemmas.List.{length-take-le}
use Rattle.actx_value.specs.Texts.{TextStore, units_of, with_text, added_number}
use Rattle.actx_value.specs.declared.value.Key.{Key}
use Rattle.actx_value.specs.declared.value.Key.TheVariants.{Index}
use Rattle.actx_value.specs.declared.value.Value.{Value}
use Rattle.actx_value.specs.declared.value.Value.TheVariants.{Text}
use Rattle.actx_request.specs.Limits.{text_above}
use Rattle.actx_request.specs.Copies.{numbered, with_units}
use Rattle.actx_request.proofs.UnitLemmas.{with_units-push, numbered-push, length-with_units, units_full, units_fit}
use Rattle.actx_request.proofs.units.add_units.Goals as goal

pub returns-in-Err-Full-clause-above : goal.returns-in-Err-Full-clause-above
returns-in-Err-Full-clause-above c =
    let t : TextStore = c.args.texts.now in
    let some : List (ℕ × ℕ) = take c.loop-index.index-index c.args.units.now in
    let long : length some ≡ c.loop-index.index-index = length-take-le c.loop-index.index-index c.args.units.now (omega arith) in
    let limit : c.loop-index.texts.limit ≡ t.limit = ap (λ (x : TextStore). x.limit) c.loop-index.invariant.1 in
    let units : units_of c.loop-index.texts.texts ≡ units_of (with_units some t).texts = ap (λ (x : TextStore). units_of x.texts) c.loop-index.invariant.1 in
    let one : length c.in_ok-unit_text.field-0 ≡ 1 = ap length c.in_ok-unit_text.ensures in
    let high : c.loop-index.texts.limit < units_of c.loop-index.texts.texts + length c.in_ok-unit_text.field-0 = c.in-Err-Full.ensures.full.0 (ap Err c.in-Err-Full.field-0-is) in
    units_full c.args.units.now c.loop-index.index-index t some long c.loop-index-test.true (omega arith)

pub loop-index-preserved : goal.loop-index-preserved
loop-index-preserved c =
    let t : TextStore = c.args.texts.now in
    let n : ℕ = length t.texts in
    let some : List (ℕ × ℕ) = take c.loop-index.index-index c.args.units.now in
    let e : ℕ × ℕ = get_or c.args.units.now c.loop-index.index-index (0, 0) in
    let more : take (c.loop-index.index-index + 1) c.args.units.now ≡ some ++ e ∷ [] = rw add-one (take-suc c.args.units.now c.loop-index.index-index (0, 0) c.loop-index-test.true) in
    let limit : c.loop-index.texts.limit ≡ t.limit = ap (λ (x : TextStore). x.limit) c.loop-index.invariant.1 in
    let units : units_of c.loop-index.texts.texts ≡ units_of (with_units some t).texts = ap (λ (x : TextStore). units_of x.texts) c.loop-index.invariant.1 in
    let one : length c.in_ok-unit_text.field-0 ≡ 1 = ap length c.in_ok-unit_text.ensures in
    let number : c.in-Ok.id.0 ≡ n + length some =
    c.in-Ok.ensures.number ∙ ap (added_number c.loop-index.texts.texts) c.in_ok-unit_text.ensures ∙ ap (λ (x : TextStore). length x.texts) c.loop-index.invariant.1 ∙ length-with_units some t in
    let left : c.add.new.self ≡ with_units (some ++ e ∷ []) t =
    c.in-Ok.ensures.ok
    ∙ ap (λ (u : List ℕ). let x : TextStore = record { texts = with_text c.loop-index.texts.texts u; limit = c.loop-index.texts.limit } in x) c.in_ok-unit_text.ensures
    ∙ ap (λ (x : TextStore). let y : TextStore = record { texts = x.texts ++ (e.1 ∷ []) ∷ []; limit = x.limit } in y) c.loop-index.invariant.1
    ∙ sym (with_units-push some e t) in
    let room : units_of (with_units some t).texts + 1 ≤ t.limit = grind (arith, c.in-Ok.ensures.full) in (
      c.in_ok-push-in-Ok.ensures.items
          ∙ ap (λ (ps : List (Key × Value)). ps ++ (Index e.0, Text c.in-Ok.id) ∷ []) c.loop-index.invariant.0
          ∙ ap (λ (i : ℕ). numbered n some ++ (Index e.0, Text (record { 0 = i })) ∷ []) number
          ∙ sym (numbered-push n (n + length some) some e refl)
          ∙ ap (numbered n) (sym more),
      left ∙ ap (λ (es : List (ℕ × ℕ)). with_units es t) (sym more),
      ap (λ (x : TextStore). text_above t x) left ∙ units_fit some e t room,
    )
