use Rattle.std.proofs.Common.{◌≡◌, ◌+◌, ◌-◌, suc, sym, ◌∙◌, arith}
use Rattle.actx_objects.proofs.StoreLemmas.{walk_found, walk_on, walk_ends}
use Rattle.actx_objects.proofs.objects.Objects.get.Goals as goal

pub returns-in-Some : goal.returns-in-Some
returns-in-Some c = sym (walk_found _ _ _ _ _ _ (let e : c.len-end.result - c.loop.counter ≡ suc (c.len-end.result - (c.loop.counter + 1)) = omega arith in e) c.in-Some.v (sym c.own.ensures ∙ c.in-Some.is)) ∙ c.loop.invariant

pub loop-preserved : goal.loop-preserved
loop-preserved c = sym (walk_on _ _ _ _ _ _ (let e : c.len-end.result - c.loop.counter ≡ suc (c.len-end.result - (c.loop.counter + 1)) = omega arith in e) c.in-Some-proto.p (sym c.own.ensures ∙ c.in_default.is) (sym c.proto.ensures ∙ c.in-Some-proto.is)) ∙ c.loop.invariant

pub returns-in-None : goal.returns-in-None
returns-in-None c = sym (walk_ends _ _ _ _ _ _ (let e : c.len-end.result - c.loop.counter ≡ suc (c.len-end.result - (c.loop.counter + 1)) = omega arith in e) (sym c.own.ensures ∙ c.in_default.is) (sym c.proto.ensures ∙ c.in-None.is)) ∙ c.loop.invariant
