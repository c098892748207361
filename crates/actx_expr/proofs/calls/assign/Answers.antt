use Rattle.actx_grammar.proofs.TopLaws.{reads-assign}
use Rattle.actx_expr.proofs.CallLaws as law
use Rattle.actx_expr.proofs.calls.assign.Goals as goal

pub returns-clause-spelled : goal.returns-clause-spelled
returns-clause-spelled c = law.spelled_to reads-assign c.args.tokens.now c.args.from c.args.depth c.requires.nested c.line_up_to.result c.line_up_to.ensures

pub returns-clause-given : goal.returns-clause-given
returns-clause-given c = law.given_to reads-assign c.args.tokens.now c.args.from c.args.depth c.requires.nested c.line_up_to.result c.line_up_to.ensures

pub returns-clause-no_tree : goal.returns-clause-no_tree
returns-clause-no_tree c = law.none_to reads-assign c.args.tokens.now c.args.from c.args.depth c.requires.nested c.line_up_to.result c.line_up_to.ensures

pub returns-clause-too_nested : goal.returns-clause-too_nested
returns-clause-too_nested c = law.nested_to reads-assign c.args.tokens.now c.args.from c.args.depth c.requires.nested c.line_up_to.result c.line_up_to.ensures
