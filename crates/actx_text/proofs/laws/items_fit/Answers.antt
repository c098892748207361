use Rattle.std.proofs.Common.{◌<◌, arith}
use Rattle.std.proofs.lemmas.List.Elements.{All-from_get_or}
use Rattle.actx_text.proofs.laws.items_fit.Goals as goal

pub returns : goal.returns
returns c = All-from_get_or (λ u. u < 65536) c.args.units.now 0 (λ i h. let f = c.type_inv.units i in omega arith)
