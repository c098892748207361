use Rattle.std.proofs.Common.{◌∙◌}
use Rattle.actx_scope_rules.specs.Words.{proto_word}
use Rattle.actx_scope_rules.proofs.Units.{pointwise-same}
use Rattle.actx_scope_rules.proofs.words.is_proto.Goals as goal

pub returns : goal.returns
returns c = let e = rw (c.as_slice.ensures, c.as_units.ensures) at c.eq.ensures in e ∙ pointwise-same proto_word c.args.word.now
