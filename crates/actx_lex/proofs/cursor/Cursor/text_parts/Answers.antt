use Rattle.std.proofs.Common.{sym}
use Rattle.actx_lex.proofs.Parts.{goes_shorter, goes_on, ends_here}
use Rattle.actx_lex.proofs.Quotes.{text-reads}
use Rattle.actx_lex.proofs.cursor.Cursor.text_parts.Goals as goal

pub loop-element-smaller : goal.loop-element-smaller
loop-element-smaller c = goes_shorter (text-reads c.args.quote) c.loop-element.self _ _ (sym c.in-Some.ensures)

pub loop-element-preserved : goal.loop-element-preserved
loop-element-preserved c = goes_on (text-reads c.args.quote) _ _ c.loop-element.self _ c.in-Some.element c.loop-element.invariant (sym c.in-Some.ensures) c.in_ok-add.ensures

pub returns-clause-spelled : goal.returns-clause-spelled
returns-clause-spelled c = ends_here _ _ c.loop-element.invariant
