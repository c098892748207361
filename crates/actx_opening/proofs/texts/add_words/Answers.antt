use Rattle.actx_opening.proofs.Tables.{words_added}
use Rattle.actx_opening.proofs.texts.add_words.Goals as goal

pub returns-clause-ok : goal.returns-clause-ok
returns-clause-ok c = words_added c.args.texts.now c.add_first.new.texts c.add_lines.new.texts c.in_ok-first.ensures.ok (c.in_ok-add_lines.ensures {u = tt})
