use Rattle.std.proofs.Common.{◌<◌, ◌≤◌, length, arith}
use Rattle.actx_scope_rules.proofs.Lists.{bad_key, bad_key-met, bad_key-more, bad_key-done}
use Rattle.actx_scope_rules.proofs.conditions.has_bad_key.Goals as goal

pub returns-then-is_proto_entry : goal.returns-then-is_proto_entry
returns-then-is_proto_entry c = let h : c.loop-entry.entry-index < length c.args.entries.now = omega (arith, c.loop-entry-test.true) in
    bad_key-met c.args.entries.now c.loop-entry.entry-index c.entry-item.result c.is_proto_entry.result (bad_key c.args.entries.now) h c.entry-item.is c.is_proto_entry.ensures c.if-is_proto_entry.true c.loop-entry.invariant

pub loop-entry-preserved : goal.loop-entry-preserved
loop-entry-preserved c = let h : c.loop-entry.entry-index < length c.args.entries.now = omega (arith, c.loop-entry-test.true) in
    bad_key-more c.args.entries.now c.loop-entry.entry-index c.entry-item.result c.is_proto_entry.result (bad_key c.args.entries.now) h c.entry-item.is c.is_proto_entry.ensures c.if-is_proto_entry.false c.loop-entry.invariant

pub returns : goal.returns
returns c = let h : length c.args.entries.now ≤ c.loop-entry.entry-index = omega (arith, c.loop-entry-test.false) in
    bad_key-done c.args.entries.now c.loop-entry.entry-index (bad_key c.args.entries.now) h c.loop-entry.invariant
