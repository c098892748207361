use Rattle.std.proofs.Common.{refl, slice_set, sym, ap, ◌∙◌, arith}
use Rattle.std.proofs.Math.ListN.{length-set}
use Rattle.actx_objects.specs.Objects.{ObjectStore}
use Rattle.actx_objects.specs.declared.object.Object.{Object}
use Rattle.actx_objects.proofs.StoreLemmas.{changed_there, cut_keeps}
use Rattle.actx_objects.proofs.objects.Objects.cut.Goals as goal

pub overflow_sub-self-2 : goal.overflow_sub-self-2
overflow_sub-self-2 c =
    let s : ObjectStore = record { objects = c.self.inside.items.items; most_objects = c.self.inside.most_objects; most_properties = c.self.inside.most_properties } in
    let x : Object = c.index_mut-object.result.now in
    let y : Object = record x { props = c.truncate.new.self } in
    let p = cut_keeps s c.args.o c.args.n x y (rw (← c.self.view_is) at c.requires) c.index_mut-object.ensures.value c.truncate.ensures refl in
    omega (arith, p.0, p.1)

pub invariant_of-self : goal.invariant_of-self
invariant_of-self c =
    let s : ObjectStore = record { objects = c.self.inside.items.items; most_objects = c.self.inside.most_objects; most_properties = c.self.inside.most_properties } in
    let x : Object = c.index_mut-object.result.now in
    let y : Object = record x { props = c.truncate.new.self } in
    let p = cut_keeps s c.args.o c.args.n x y (rw (← c.self.view_is) at c.requires) c.index_mut-object.ensures.value c.truncate.ensures refl in
    (omega (arith, p.0, p.1, p.2), omega (arith, p.0, p.1), omega (arith, length-set c.self.inside.items.items c.args.o.0 y), omega arith, omega arith)

pub returns : goal.returns
returns c =
    let s : ObjectStore = record { objects = c.self.inside.items.items; most_objects = c.self.inside.most_objects; most_properties = c.self.inside.most_properties } in
    let x : Object = c.index_mut-object.result.now in
    let y : Object = record x { props = c.truncate.new.self } in
    let p = cut_keeps s c.args.o c.args.n x y (rw (← c.self.view_is) at c.requires) c.index_mut-object.ensures.value c.truncate.ensures refl in
    rw (← c.self.view_is) (ap (λ ps. record s { objects = slice_set s.objects c.args.o.0 (record x { props = ps }) }) c.truncate.ensures ∙ sym (changed_there s c.args.o _ x p.3))
