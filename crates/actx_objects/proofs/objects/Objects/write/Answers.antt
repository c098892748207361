use Rattle.std.proofs.Common.{refl, slice_set, sym, ap, ◌∙◌, arith}
use Rattle.std.proofs.Math.ListN.{length-set}
use Rattle.actx_objects.specs.Objects.{ObjectStore}
use Rattle.actx_objects.specs.declared.object.Object.{Object}
use Rattle.actx_objects.proofs.StoreLemmas.{changed_there, write_keeps}
use Rattle.actx_objects.proofs.objects.Objects.write.Goals as goal

pub overflow_sub-self : goal.overflow_sub-self
overflow_sub-self c =
    let s : ObjectStore = record { objects = c.self.inside.items.items; most_objects = c.self.inside.most_objects; most_properties = c.self.inside.most_properties } in
    let x : Object = c.index_mut-object.result.now in
    let y : Object = record x { props = c.write.new.self } in
    let p = write_keeps s c.args.o c.args.k c.args.v c.args.hidden x y (rw (← c.self.view_is) at c.requires.there) c.index_mut-object.ensures.value (rw (← c.self.view_is) at c.requires.room) (omega arith) c.in_ok-write.ensures.ok refl in
    omega (arith, p.0)

pub overflow_add-self : goal.overflow_add-self
overflow_add-self c =
    let s : ObjectStore = record { objects = c.self.inside.items.items; most_objects = c.self.inside.most_objects; most_properties = c.self.inside.most_properties } in
    let x : Object = c.index_mut-object.result.now in
    let y : Object = record x { props = c.write.new.self } in
    let p = write_keeps s c.args.o c.args.k c.args.v c.args.hidden x y (rw (← c.self.view_is) at c.requires.there) c.index_mut-object.ensures.value (rw (← c.self.view_is) at c.requires.room) (omega arith) c.in_ok-write.ensures.ok refl in
    omega (arith, p.0, p.1)

pub invariant_of-self-2 : goal.invariant_of-self-2
invariant_of-self-2 c =
    let s : ObjectStore = record { objects = c.self.inside.items.items; most_objects = c.self.inside.most_objects; most_properties = c.self.inside.most_properties } in
    let x : Object = c.index_mut-object.result.now in
    let y : Object = record x { props = c.write.new.self } in
    let p = write_keeps s c.args.o c.args.k c.args.v c.args.hidden x y (rw (← c.self.view_is) at c.requires.there) c.index_mut-object.ensures.value (rw (← c.self.view_is) at c.requires.room) (omega arith) c.in_ok-write.ensures.ok refl in
    (omega (arith, p.2), omega (arith, p.1), omega (arith, length-set c.self.inside.items.items c.args.o.0 y), omega arith, omega arith)

pub returns-clause-ok : goal.returns-clause-ok
returns-clause-ok c =
    let s : ObjectStore = record { objects = c.self.inside.items.items; most_objects = c.self.inside.most_objects; most_properties = c.self.inside.most_properties } in
    let x : Object = c.index_mut-object.result.now in
    let y : Object = record x { props = c.write.new.self } in
    let p = write_keeps s c.args.o c.args.k c.args.v c.args.hidden x y (rw (← c.self.view_is) at c.requires.there) c.index_mut-object.ensures.value (rw (← c.self.view_is) at c.requires.room) (omega arith) c.in_ok-write.ensures.ok refl in
    rw (← c.self.view_is) (ap (λ ps. record s { objects = slice_set s.objects c.args.o.0 (record x { props = ps }) }) c.in_ok-write.ensures.ok ∙ sym (changed_there s c.args.o _ x p.3))
