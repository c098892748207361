use Rattle.actx_grammar.proofs.TopLaws.{reads-target}
use Rattle.actx_expr.proofs.CallLaws as law
use Rattle.actx_expr.proofs.calls.target.Goals as goal

pub returns-clause-spelled : goal.returns-clause-spelled
returns-clause-spelled c = law.spelled_by reads-target c.args.tokens.now c.args.from c.args.depth c.requires.nested c.target_answer.result c.target_answer.ensures

pub returns-clause-given : goal.returns-clause-given
returns-clause-given c = law.given_by reads-target c.args.tokens.now c.args.from c.args.depth c.requires.nested c.target_answer.result c.target_answer.ensures

pub returns-clause-no_tree : goal.returns-clause-no_tree
returns-clause-no_tree c = law.none_by reads-target c.args.tokens.now c.args.from c.args.depth c.requires.nested c.target_answer.result c.target_answer.ensures

pub returns-clause-too_nested : goal.returns-clause-too_nested
returns-clause-too_nested c = law.nested_by reads-target c.args.tokens.now c.args.from c.args.depth c.requires.nested c.target_answer.result c.target_answer.ensures
