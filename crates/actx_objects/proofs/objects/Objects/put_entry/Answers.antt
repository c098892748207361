use Rattle.std.proofs.Common.{◌≤◌, refl, slice_set, sym, ap, ◌∙◌, arith}
use Rattle.std.proofs.Math.ListN.{length-set}
use Rattle.actx_objects.specs.Objects.{ObjectStore, property_count}
use Rattle.actx_objects.specs.declared.object.Object.{Object}
use Rattle.actx_objects.proofs.StoreLemmas.{changed_there, entry_keeps, places_within}
use Rattle.actx_objects.proofs.objects.Objects.put_entry.Goals as goal

pub put-requires : goal.put-requires
put-requires c =
    let s : ObjectStore = record { objects = c.self.inside.items.items; most_objects = c.self.inside.most_objects; most_properties = c.self.inside.most_properties } in
    let x : Object = c.index_mut-object.result.now in
    let w : x.entries.places ≤ property_count s.objects = places_within s c.args.o x (rw (← c.self.view_is) at c.requires.there) c.index_mut-object.ensures.value in
    omega (arith, w)

pub overflow_sub-self : goal.overflow_sub-self
overflow_sub-self c =
    let s : ObjectStore = record { objects = c.self.inside.items.items; most_objects = c.self.inside.most_objects; most_properties = c.self.inside.most_properties } in
    let x : Object = c.index_mut-object.result.now in
    let y : Object = record x { entries = c.put.new.self } in
    let p = entry_keeps s c.args.o c.args.key c.args.v x y (rw (← c.self.view_is) at c.requires.there) c.index_mut-object.ensures.value (rw (← c.self.view_is) at c.requires.room) (omega arith) c.in_ok-put.ensures.ok refl in
    omega (arith, p.0)

pub overflow_add-self : goal.overflow_add-self
overflow_add-self c =
    let s : ObjectStore = record { objects = c.self.inside.items.items; most_objects = c.self.inside.most_objects; most_properties = c.self.inside.most_properties } in
    let x : Object = c.index_mut-object.result.now in
    let y : Object = record x { entries = c.put.new.self } in
    let p = entry_keeps s c.args.o c.args.key c.args.v x y (rw (← c.self.view_is) at c.requires.there) c.index_mut-object.ensures.value (rw (← c.self.view_is) at c.requires.room) (omega arith) c.in_ok-put.ensures.ok refl in
    omega (arith, p.0, p.1)

pub invariant_of-self-2 : goal.invariant_of-self-2
invariant_of-self-2 c =
    let s : ObjectStore = record { objects = c.self.inside.items.items; most_objects = c.self.inside.most_objects; most_properties = c.self.inside.most_properties } in
    let x : Object = c.index_mut-object.result.now in
    let y : Object = record x { entries = c.put.new.self } in
    let p = entry_keeps s c.args.o c.args.key c.args.v x y (rw (← c.self.view_is) at c.requires.there) c.index_mut-object.ensures.value (rw (← c.self.view_is) at c.requires.room) (omega arith) c.in_ok-put.ensures.ok refl in
    (omega (arith, p.2, p.0), omega (arith, p.0, p.1), omega (arith, length-set c.self.inside.items.items c.args.o.0 y), omega arith, omega arith)

pub returns-clause-ok : goal.returns-clause-ok
returns-clause-ok c =
    let s : ObjectStore = record { objects = c.self.inside.items.items; most_objects = c.self.inside.most_objects; most_properties = c.self.inside.most_properties } in
    let x : Object = c.index_mut-object.result.now in
    let y : Object = record x { entries = c.put.new.self } in
    let p = entry_keeps s c.args.o c.args.key c.args.v x y (rw (← c.self.view_is) at c.requires.there) c.index_mut-object.ensures.value (rw (← c.self.view_is) at c.requires.room) (omega arith) c.in_ok-put.ensures.ok refl in
    rw (← c.self.view_is) (ap (λ es. record s { objects = slice_set s.objects c.args.o.0 (record x { entries = es }) }) c.in_ok-put.ensures.ok ∙ sym (changed_there s c.args.o _ x p.3))
