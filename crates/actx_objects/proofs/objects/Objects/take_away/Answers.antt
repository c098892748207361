use Rattle.std.proofs.Common.{refl, slice_set, sym, ap, ◌∙◌, arith}
use Rattle.std.proofs.Math.ListN.{length-set}
use Rattle.actx_objects.specs.Objects.{ObjectStore}
use Rattle.actx_objects.specs.declared.object.Object.{Object}
use Rattle.actx_objects.proofs.StoreLemmas.{changed_there, removal_keeps}
use Rattle.actx_objects.proofs.objects.Objects.take_away.Goals as goal

pub overflow_sub-self : goal.overflow_sub-self
overflow_sub-self c =
    let s : ObjectStore = record { objects = c.self.inside.items.items; most_objects = c.self.inside.most_objects; most_properties = c.self.inside.most_properties } in
    let x : Object = c.index_mut-object.result.now in
    let y : Object = record x { props = c.delete.new.self } in
    let p = removal_keeps s c.args.o c.args.k x y (rw (← c.self.view_is) at c.requires) c.index_mut-object.ensures.value c.delete.ensures refl in
    omega (arith, p.0)

pub invariant_of-self : goal.invariant_of-self
invariant_of-self c =
    let s : ObjectStore = record { objects = c.self.inside.items.items; most_objects = c.self.inside.most_objects; most_properties = c.self.inside.most_properties } in
    let x : Object = c.index_mut-object.result.now in
    let y : Object = record x { props = c.delete.new.self } in
    let p = removal_keeps s c.args.o c.args.k x y (rw (← c.self.view_is) at c.requires) c.index_mut-object.ensures.value c.delete.ensures refl in
    (omega (arith, p.0), omega arith, omega (arith, length-set c.self.inside.items.items c.args.o.0 y), omega arith, omega arith)

pub returns : goal.returns
returns c =
    let s : ObjectStore = record { objects = c.self.inside.items.items; most_objects = c.self.inside.most_objects; most_properties = c.self.inside.most_properties } in
    let x : Object = c.index_mut-object.result.now in
    let y : Object = record x { props = c.delete.new.self } in
    let p = removal_keeps s c.args.o c.args.k x y (rw (← c.self.view_is) at c.requires) c.index_mut-object.ensures.value c.delete.ensures refl in
    rw (← c.self.view_is) (ap (λ ps. record s { objects = slice_set s.objects c.args.o.0 (record x { props = ps }) }) c.delete.ensures ∙ sym (changed_there s c.args.o _ x p.1))
