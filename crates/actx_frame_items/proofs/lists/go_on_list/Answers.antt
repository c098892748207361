use Rattle.std.proofs.Common.{◌<◌, length, rules, refl}
use Rattle.actx_frame_items.proofs.ListLaws.{list_one, list_spread}
use Rattle.actx_frame_items.proofs.lists.go_on_list.Goals as goal

pub returns-in_ok-e-in-One : goal.returns-in_ok-e-in-One
returns-in_ok-e-in-One c =
    let lt : c.args.list.at < length c.args.list.members.value.items = search rules in
    let e = c.in_ok-e-in-One.ensures in
    rw c.under.ensures (record { leads = list_one c.args.list _ c.index.result.now c.in-One.e c.in_ok-e-in-One.e lt (search rules) c.in-One.is e refl })

pub returns-in_ok-e-in-Spread : goal.returns-in_ok-e-in-Spread
returns-in_ok-e-in-Spread c =
    let lt : c.args.list.at < length c.args.list.members.value.items = search rules in
    let e = c.in_ok-e-in-Spread.ensures in
    rw c.under-in-Spread.ensures (record { leads = list_spread c.args.list _ c.index.result.now c.in-Spread.e c.in_ok-e-in-Spread.e lt (search rules) c.in-Spread.is e refl })
