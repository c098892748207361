use Rattle.actx_scope.proofs.repeats.pass_stmt.Goals as goal

pub returns : goal.returns
returns c = rw (c.as_slice.ensures, c.in_ok-add_stmt.ensures, c.new-slots.ensures) at c.add_all.ensures
