use Rattle.std.proofs.Common.{◌≡◌, [], length, arith, sym, ap, ◌∙◌}
use Rattle.actx_scope_rules.specs.Scopes.{found_from}
use Rattle.actx_scope_rules.proofs.Founds.{found_met, found_further, found_outside}
use Rattle.actx_scope_rules.proofs.scopes.find_in.Goals as goal

pub returns-in-Some : goal.returns-in-Some
returns-in-Some c = found_met c.args.name.now c.args.tables.now c.loop-hops.hops c.index-tables-count.result (c.in-Some.slot, c.in-Some.is_fixed) _ c.loop-hops-test.true c.index-tables-count.is (sym c.in-Some.is ∙ c.last.ensures) c.loop-hops.invariant

pub loop-hops-preserved : goal.loop-hops-preserved
loop-hops-preserved c = found_further c.args.name.now c.args.tables.now c.loop-hops.hops c.index-tables-count.result _ c.loop-hops-test.true c.index-tables-count.is (sym c.in_default.is ∙ c.last.ensures) c.loop-hops.invariant

pub returns : goal.returns
returns c = let h : length c.args.tables.now ≡ c.loop-hops.hops = omega arith in
    c.global_found.ensures ∙ (ap (λ z. found_from c.args.name.now [] z) h ∙ found_outside c.args.name.now c.args.tables.now c.loop-hops.hops _ c.loop-hops-test.false c.loop-hops.invariant)
