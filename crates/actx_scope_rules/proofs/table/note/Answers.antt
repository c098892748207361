use Rattle.std.proofs.Common.{◌∙◌}
use Rattle.actx_scope_rules.proofs.Tables.{noted, nameless}
use Rattle.actx_scope_rules.proofs.table.note.Goals as goal

pub returns-in_ok-insert-in-Some : goal.returns-in_ok-insert-in-Some
returns-in_ok-insert-in-Some c = λ name. rw c.in-Some.is (noted c.args.last.now c.insert.new.self c.in_ok-key-in-Some.key c.in-Some.name name _ (c.in_ok-key-in-Some.ensures.items ∙ c.as_units.ensures) c.in_ok-insert-in-Some.ensures.entries)

pub returns-in-None : goal.returns-in-None
returns-in-None c = λ name. nameless name c.args.slot.now.name _ _ c.in-None.is
