use Rattle.std.proofs.Common.{◌≡◌, Bool, true, false, not, ◌&&◌, Option, Some, None, refl, sym, ap, ◌∙◌}
use Rattle.std.specs.Prelude.{is_some, is_none}
use Rattle.actx_lex.specs.Units.{begins, begins_digit}
use Rattle.actx_lex.specs.Words.{begins_word_part}
use Rattle.actx_lex.proofs.Words.{part-none}
use Rattle.actx_lex.proofs.cursor.Cursor.ends_number.Goals.{then-not-begins, else-not-begins}
use Rattle.actx_lex.proofs.cursor.Cursor.ends_number.Goals as goal

both_true : (p q r s : Bool) → (not p && not q) ≡ true → r ≡ s → r ≡ (not p && not q && s)
both_true p q r s h e = e ∙ ap (λ x. x && s) (sym h)

turned : {A : Type 0} (o : Option A) (t : Bool) → is_some o ≡ not t → t ≡ is_none o
turned None true e = refl
turned None false e = Prim.absurd (cc)
turned (Some x) true e = Prim.absurd (cc)
turned (Some x) false e = refl

pub returns-then-not-begins_digit : goal.returns-then-not-begins_digit
returns-then-not-begins_digit c =
    let v : c.if-not-begins.value ≡ true = c.if-not-begins_digit.true in
    let t : (not (begins 46 c.args.self.now) && not (begins_digit c.args.self.now)) ≡ true = elim c.if-not-begins.branch [
      | then-not-begins w ↦ (
          let p : begins 46 c.args.self.now ≡ false = sym c.begins.ensures ∙ w.if-not-begins.true in
          let q : not (begins_digit c.args.self.now) ≡ true = ap not (sym w.begins_digit.ensures) ∙ sym w.value-is ∙ v in
          rw p q)
      | else-not-begins w ↦ (let z = w.value-is in Prim.absurd (cc))
    ] in
    let n : c.is_none.result ≡ not (begins_word_part c.args.self.now) =
    turned c.after_character.result c.is_none.result c.is_none.ensures ∙ ap is_none c.after_character.ensures ∙ sym (part-none c.args.self.now) in
    both_true _ _ _ _ t n
