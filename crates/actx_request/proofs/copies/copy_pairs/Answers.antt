use Rattle.std.proofs.Common.{◌∙◌, sym}
use Rattle.actx_request.specs.Puts.{IsOpened}
use Rattle.actx_request.proofs.UnitLemmas.{not_true, not_false}
use Rattle.actx_request.proofs.OpenLemmas.{opened_plain, opened_thawed}
use Rattle.actx_request.proofs.CopyOutcomes.{pairs_done, pairs_full, pairs_shut}
use Rattle.actx_request.proofs.copies.copy_pairs.Goals as goal

pub returns-in-Some-2 : goal.returns-in-Some-2
returns-in-Some-2 c =
    pairs_shut c.args.o c.args.objects.now c.args.texts.now c.in-Some.k c.in-Some-2.refused c.open.new.objects c.args.pairs.now (sym c.first_key.ensures ∙ c.in-Some.is)
    (rw c.in-Some-2.is at c.in_ok-refused.ensures.shut)

pub put_pairs-requires-clause-plain : goal.put_pairs-requires-clause-plain
put_pairs-requires-clause-plain c =
    let opened : IsOpened c.args.texts.now.texts c.args.o c.in-Some.k c.args.objects.now c.open.new.objects = rw c.in_default-2.is at c.in_ok-refused.ensures.opened in
    opened_plain c.args.texts.now c.args.objects.now c.args.o c.in-Some.k c.open.new.objects opened

pub put_pairs-requires-clause-thawed : goal.put_pairs-requires-clause-thawed
put_pairs-requires-clause-thawed c =
    let opened : IsOpened c.args.texts.now.texts c.args.o c.in-Some.k c.args.objects.now c.open.new.objects = rw c.in_default-2.is at c.in_ok-refused.ensures.opened in
    opened_thawed c.args.texts.now c.args.objects.now c.args.o c.in-Some.k c.open.new.objects opened

pub returns-then-branch : goal.returns-then-branch
returns-then-branch c =
    rw c.go-then-branch.ensures
    (pairs_done c.args.o c.args.objects.now c.open.new.objects c.args.texts.now c.in-Some.k (rw c.in_default-2.is at c.in_ok-refused.ensures.opened) c.args.pairs.now c.put_pairs.new.objects
    (sym c.first_key.ensures ∙ c.in-Some.is)
    (not_true _ (sym c.if-branch.true ∙ c.in_ok-put_pairs.ensures.fits))
    (rw c.if-branch.true at c.in_ok-put_pairs.ensures.written))

pub returns-else-branch : goal.returns-else-branch
returns-else-branch c =
    pairs_full c.args.o c.args.objects.now c.open.new.objects c.args.texts.now c.in-Some.k (rw c.in_default-2.is at c.in_ok-refused.ensures.opened) c.args.pairs.now c.put_pairs.new.objects
    (sym c.first_key.ensures ∙ c.in-Some.is)
    (not_false _ (sym c.if-branch.false ∙ c.in_ok-put_pairs.ensures.fits))
