use Rattle.std.proofs.Common.{ℕ, ◌+◌, ◌<◌, List, [], length, get_or, drop, arith, ap}
use Rattle.std.proofs.lemmas.List.{drop_more}
use denote.Ref.{Bor}
use Rattle.actx_scope_rules.specs.WordSlots.{word_slot, word_slots}
use Rattle.actx_scope_rules.proofs.Lists.{done}
use Rattle.actx_scope_rules.proofs.Names.{last_step, last_done}
use Rattle.actx_scope_rules.proofs.globals.last_word.Goals as goal

pub loop-i-preserved : goal.loop-i-preserved
loop-i-preserved c =
    let none : Bor (List ℕ) = record { ref_ptr = (0, 0); now = [] } in
    let h : c.loop-i.i < length c.args.words.now = omega (arith, c.loop-i-test.true) in
    last_step c.args.name.now (word_slots (drop c.loop-i.i c.args.words.now)) (word_slots (drop (c.loop-i.i + 1) c.args.words.now)) c.loop-i.i (word_slot (get_or c.args.words.now c.loop-i.i none)) c.loop-i.last _ _
    (ap (λ z. word_slots z) (drop_more c.args.words.now c.loop-i.i none h)) (rw c.is_word.ensures at c.here_or-last.ensures) c.loop-i.invariant

pub returns : goal.returns
returns c = last_done c.args.name.now (word_slots (drop c.loop-i.i c.args.words.now)) c.loop-i.i c.loop-i.last _ (ap (λ z. word_slots z) (done c.args.words.now c.loop-i.i (omega (arith, c.loop-i-test.false)))) c.loop-i.invariant
