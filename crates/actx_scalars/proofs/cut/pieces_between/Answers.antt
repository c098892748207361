use Rattle.std.proofs.Common.{◌<◌, ◌+◌, ◌-◌, [], ◌∷◌, ◌++◌, length, sym, ap, ◌∙◌, arith}
use Rattle.actx_scalars.specs.Splits.{pieces_from}
use Rattle.actx_scalars.proofs.PieceLemmas.{piece_more, piece_last}
use Rattle.actx_scalars.proofs.cut.pieces_between.Goals as goal

pub returns-in-None : goal.returns-in-None
returns-in-None c =
    let below : c.loop-count._count < c.args.most = omega arith in
    c.from_vec.ensures
    ∙ c.in_ok-push-in-None.ensures.items
    ∙ ap (λ p. c.loop-count.pieces.items ++ p ∷ []) c.in_ok-piece-in-None.ensures
    ∙ piece_last c.args.most c.loop-count._count c.args.text.now c.args.separator.now c.loop-count.from c.loop-count.pieces.items (pieces_from c.args.most c.args.text.now c.args.separator.now 0) below (sym c.in-None.ensures.value) c.loop-count.invariant.1

pub loop-count-preserved : goal.loop-count-preserved
loop-count-preserved c =
    let below : c.loop-count._count < c.args.most = omega arith in (
      c.in-Some.ensures.within,
      ap (λ ps. ps ++ pieces_from (c.args.most - (c.loop-count._count + 1)) c.args.text.now c.args.separator.now (c.in-Some.to + length c.args.separator.now))
          (c.in_ok-push-in-Some.ensures.items ∙ ap (λ p. c.loop-count.pieces.items ++ p ∷ []) c.in_ok-piece-in-Some.ensures)
          ∙ piece_more c.args.most c.loop-count._count c.args.text.now c.args.separator.now c.loop-count.from c.in-Some.to c.loop-count.pieces.items (pieces_from c.args.most c.args.text.now c.args.separator.now 0) below (sym c.in-Some.ensures.value) c.loop-count.invariant.1,
    )
