use Rattle.std.proofs.Common.{◌≡◌, ◌+◌, ◌++◌}
use Rattle.std.proofs.lemmas.List.{append_assoc}
use Rattle.std.specs.List.{repeat}
use Rattle.actx_scalars.proofs.CopyLemmas.{repeat_more}
use Rattle.actx_scalars.proofs.pieces.push_copies.Goals as goal

pub loop-copy-preserved : goal.loop-copy-preserved
loop-copy-preserved c =
    let more : repeat c.loop-copy._copy c.args.text.now ++ c.args.text.now ≡ repeat (c.loop-copy._copy + 1) c.args.text.now = repeat_more c.loop-copy._copy c.args.text.now in
    let joined : (c.args.units.now.items ++ repeat c.loop-copy._copy c.args.text.now) ++ c.args.text.now ≡ c.args.units.now.items ++ (repeat c.loop-copy._copy c.args.text.now ++ c.args.text.now) = append_assoc c.args.units.now.items (repeat c.loop-copy._copy c.args.text.now) c.args.text.now in
    cc (more, joined, c.loop-copy.invariant, c.in_ok-extend_from_slice.ensures.items)
