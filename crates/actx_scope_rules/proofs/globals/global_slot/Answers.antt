use Rattle.actx_scope_rules.proofs.globals.global_slot.Goals as goal

pub returns : goal.returns
returns c = rw (c.as_units.ensures, c.as_slice.ensures) at c.last_word.ensures
