use Rattle.std.proofs.Common.{◌∙◌}
use Rattle.actx_scope_rules.proofs.Firsts.{known_first, put_same, put_more}
use Rattle.actx_scope_rules.proofs.earlier.note_name.Goals as goal

pub returns-then-has_name-clause-more : goal.returns-then-has_name-clause-more
returns-then-has_name-clause-more c = known_first c.args.places.now c.args.names.now c.args.name.now c.requires c.if-has_name.ensures

pub returns-clause-same : goal.returns-clause-same
returns-clause-same c = put_same c.args.places.now c.insert.new.self c.args.names.now c.args.name.now c.in_ok-key.key c.requires c.if-has_name.ensures (c.in_ok-key.ensures.items ∙ c.as_units.ensures) c.in_ok-insert.ensures.entries

pub returns-clause-more : goal.returns-clause-more
returns-clause-more c = put_more c.args.places.now c.insert.new.self c.args.names.now c.args.name.now c.in_ok-key.key c.requires c.if-has_name.ensures (c.in_ok-key.ensures.items ∙ c.as_units.ensures) c.in_ok-insert.ensures.entries
