use Rattle.actx_table.proofs.globals.global.Goals as goal

pub returns : goal.returns
returns c = c.value_at.ensures
