use Rattle.std.proofs.Common.{◌<◌, length, rules}
use Rattle.actx_frame_items.proofs.EntryLaws.{entry_pairs, entry_copies}
use Rattle.actx_frame_items.proofs.lists.next_entry.Goals as goal

pub returns-in_ok-e-in-Pair : goal.returns-in_ok-e-in-Pair
returns-in_ok-e-in-Pair c =
    let lt : c.args.at < length c.args.entries.value.items = search rules in
    let h = c.in_ok-key-in-Pair.ensures in
    let e = c.in_ok-e-in-Pair.ensures in
    rw c.under_entry.ensures (record { leads = entry_pairs c.args.entries c.args.at c.args.p c.args.object c.index.result.now c.in-Pair.key c.in_ok-key-in-Pair.key c.in-Pair.e c.in_ok-e-in-Pair.e lt (search rules) c.in-Pair.is h e })

pub returns-in_ok-e-in-Copied : goal.returns-in_ok-e-in-Copied
returns-in_ok-e-in-Copied c =
    let lt : c.args.at < length c.args.entries.value.items = search rules in
    let e = c.in_ok-e-in-Copied.ensures in
    record { leads = entry_copies c.args.entries c.args.at c.args.p c.args.object c.index.result.now c.in-Copied.e c.in_ok-e-in-Copied.e lt (search rules) c.in-Copied.is e }
