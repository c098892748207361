use Rattle.std.proofs.Common.{length}
use Rattle.actx_lex.specs.Templates.{TemplatePart}
use Rattle.actx_lex.proofs.Parts.{GoesOn}
use Rattle.actx_lex.proofs.cursor.Cursor.template_parts.Given as goal

abbrev pub invariant-loop-element : goal.invariant-loop-element
invariant-loop-element l = GoesOn TemplatePart l.fn.self l.units.items l.self

abbrev pub decreases-loop-element : goal.decreases-loop-element
decreases-loop-element l = length l.self
