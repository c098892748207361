use Rattle.std.proofs.Common.{◌≡◌, ◌≤◌, arith}
use Rattle.actx_program.proofs.SoundTrees.{file_levels}
use Rattle.actx_parse.proofs.files.file_items.Goals as goal

pub returns-in-Ok-clause-low : goal.returns-in-Ok-clause-low
returns-in-Ok-clause-low c = let l = file_levels 201 _ (c.in-Ok.items, c.in-Ok.field-0-1) _ c.in-Ok.ensures in omega (arith, l.0, l.1)
