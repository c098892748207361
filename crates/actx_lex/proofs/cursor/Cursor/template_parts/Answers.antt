use Rattle.std.proofs.Common.{sym}
use Rattle.actx_lex.proofs.Parts.{goes_shorter, goes_on, ends_here}
use Rattle.actx_lex.proofs.Quotes.{template-reads}
use Rattle.actx_lex.proofs.cursor.Cursor.template_parts.Goals as goal

pub loop-element-smaller : goal.loop-element-smaller
loop-element-smaller c = goes_shorter template-reads c.loop-element.self _ _ (sym c.in-Some.ensures)

pub loop-element-preserved : goal.loop-element-preserved
loop-element-preserved c = goes_on template-reads _ _ c.loop-element.self _ c.in-Some.element c.loop-element.invariant (sym c.in-Some.ensures) c.in_ok-add.ensures

pub returns-clause-spelled : goal.returns-clause-spelled
returns-clause-spelled c = ends_here _ _ c.loop-element.invariant
