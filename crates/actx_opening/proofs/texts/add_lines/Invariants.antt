use Rattle.std.proofs.Common.{◌≡◌, [], drop}
use Rattle.std.specs.List.{fold}
use Rattle.actx_opening.specs.Texts.{added}
use Rattle.actx_opening.specs.Words.{lines_from}
use Rattle.actx_opening.proofs.texts.add_lines.Given as goal

abbrev pub invariant-loop-letter : goal.invariant-loop-letter
invariant-loop-letter l = (fold added l.texts.texts (lines_from l.word.items (drop l.letter-index l.table)) ≡ fold added l.fn.texts.texts (lines_from [] l.fn.table)) × (l.texts.limit ≡ l.fn.texts.limit)
