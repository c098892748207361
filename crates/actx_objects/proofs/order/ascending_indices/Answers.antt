use Rattle.std.proofs.Common.{◌≡◌, ap, ◌∙◌, rules}
use Rattle.std.specs.List.{filter_map}
use Rattle.actx_objects.specs.Properties.{index_in, ascending}
use Rattle.actx_objects.proofs.SortLemmas.{sorted_ascends}
use Rattle.actx_objects.proofs.order.ascending_indices.Goals as goal

pub returns : goal.returns
returns c =
    let all : c.push_all.new.indices.items ≡ filter_map index_in c.args.keys.now = search rules in
    sorted_ascends c.push_all.new.indices.items c.sort.new.self.items c.in_ok-sort.ensures.sorted c.in_ok-sort.ensures.stable ∙ ap ascending all
