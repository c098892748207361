use Rattle.std.proofs.Common.{◌≡◌, drop}
use Rattle.actx_scope_rules.specs.Scopes.{last_slot, or_else}
use Rattle.actx_scope_rules.specs.WordSlots.{word_slots}
use Rattle.actx_scope_rules.proofs.globals.last_word.Given as goal

abbrev pub invariant-loop-i : goal.invariant-loop-i
invariant-loop-i l = or_else (last_slot l.name (word_slots (drop l.i l.words)) l.i) l.last ≡ last_slot l.name (word_slots l.words) 0
