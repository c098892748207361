use Rattle.std.proofs.Common.{◌≡◌, ◌≤◌, ◌*◌, ◌++◌, [], length, sym, ap, ◌∙◌, arith}
use Rattle.std.proofs.lemmas.Bool.{eqb-true}
use Rattle.std.specs.List.{repeat}
use Rattle.actx_ops.specs.declared.out.OpOut.TheVariants.{NewText}
use Rattle.actx_scalars.specs.Bounds.{within}
use Rattle.actx_scalars.specs.declared.bounded.Bounded.TheVariants.{Out}
use Rattle.actx_scalars.proofs.BoundLemmas.{fits, too_long}
use Rattle.actx_scalars.proofs.CopyLemmas.{copies_of_none, length-repeat}
use Rattle.actx_scalars.proofs.pieces.copies.Goals as goal
use Rattle.actx_scalars.proofs.pieces.copies.Goals.{in_default-via-in-Some+else-len-most, in_default-via-in_default}

pub returns-then-is_empty : goal.returns-then-is_empty
returns-then-is_empty c =
    let none : length c.args.text.now ≡ 0 = eqb-true _ _ (sym c.is_empty.ensures ∙ c.if-is_empty.true) in
    let all : repeat c.args.n c.args.text.now ≡ [] = copies_of_none c.args.n c.args.text.now none in
    let made : c.from_units.result ≡ [] = cc (c.from_units.ensures, c.new.ensures.items) in
    ap (λ text. Out (NewText text)) (made ∙ sym all) ∙ fits (repeat c.args.n c.args.text.now) c.args.most (omega (arith, ap length all))

pub returns-in_ok-push_copies-in-Some : goal.returns-in_ok-push_copies-in-Some
returns-in_ok-push_copies-in-Some c =
    let made : c.from_units-in-Some.result ≡ repeat c.args.n c.args.text.now =
    c.from_units-in-Some.ensures ∙ c.in_ok-push_copies-in-Some.ensures ∙ ap (λ us. us ++ repeat c.args.n c.args.text.now) c.in_ok-units-in-Some.ensures.items in
    let long : length (repeat c.args.n c.args.text.now) ≡ c.args.n * length c.args.text.now = length-repeat c.args.n c.args.text.now in
    ap (λ text. Out (NewText text)) made ∙ fits (repeat c.args.n c.args.text.now) c.args.most (omega (arith, c.in-Some.ensures.1))

pub returns-in_default : goal.returns-in_default
returns-in_default c =
    let long : length (repeat c.args.n c.args.text.now) ≡ c.args.n * length c.args.text.now = length-repeat c.args.n c.args.text.now in
    elim c.in_default.branch [
      | in_default-via-in-Some+else-len-most w ↦ too_long (repeat c.args.n c.args.text.now) c.args.most (omega (arith, w.in-Some.ensures.1))
      | in_default-via-in_default w ↦ too_long (repeat c.args.n c.args.text.now) c.args.most (omega (arith, w.in_default.ensures))
    ]
