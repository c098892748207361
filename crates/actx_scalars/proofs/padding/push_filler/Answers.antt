use Rattle.std.proofs.Common.{◌≡◌, ◌<◌, ◌+◌, ◌/◌, ◌%◌, ◌++◌, length, take}
use Rattle.std.proofs.lemmas.List.{append_assoc}
use Rattle.std.specs.List.{repeat}
use Rattle.actx_scalars.proofs.CopyLemmas.{whole_and_part}
use Rattle.actx_scalars.proofs.padding.push_filler.Goals as goal

pub returns : goal.returns
returns c =
    let both : repeat (c.args.n / length c.args.fill.now) c.args.fill.now ++ take (c.args.n % length c.args.fill.now) c.args.fill.now ≡ take c.args.n (repeat c.args.n c.args.fill.now) = whole_and_part c.args.n c.args.fill.now c.requires in
    let joined : (c.args.units.now.items ++ repeat (c.args.n / length c.args.fill.now) c.args.fill.now) ++ take (c.args.n % length c.args.fill.now) c.args.fill.now ≡ c.args.units.now.items ++ (repeat (c.args.n / length c.args.fill.now) c.args.fill.now ++ take (c.args.n % length c.args.fill.now) c.args.fill.now) = append_assoc c.args.units.now.items _ _ in
    cc (both, joined, c.in_ok-push_copies.ensures, c.in_ok-extend_from_slice.ensures.items)
