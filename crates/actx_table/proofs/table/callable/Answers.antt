use Rattle.std.proofs.Common.{Option, sym, ap, ◌∙◌}
use Rattle.std.specs.Option.{option_and_then}
use Rattle.actx_table.specs.declared.built.Built.{Built}
use Rattle.actx_table.proofs.table.callable.Goals as goal

pub returns-in-Some : goal.returns-in-Some
returns-in-Some c = ap (option_and_then (λ (b : Option Built). b)) (sym c.in-Some.is ∙ c.entry_at.ensures)

pub returns-in-None : goal.returns-in-None
returns-in-None c = ap (option_and_then (λ (b : Option Built). b)) (sym c.in-None.is ∙ c.entry_at.ensures)
