-- One more object gets its prototype, and the last one has it.
use Rattle.std.proofs.Common.{◌≡◌, ℕ, suc, ◌+◌, ◌<◌, ◌≤◌, List, length, drop, get_or, sym, ap, ◌∙◌, arith}
use Rattle.std.proofs.Math.Seq.{drop-cons}
use Rattle.std.proofs.Math.ListN.{drop_of_length-le}
use Rattle.actx_objects.specs.Objects.{ObjectStore}
use Rattle.actx_opening.specs.declared.start.Start.{Start}
use Rattle.actx_opening.specs.Starts.{with_its_proto, with_protos}

pub one_given : (o : ℕ) (xs : List Start) (d : Start) (s t : ObjectStore) → o < length xs → t ≡ with_its_proto s (record { 0 = o }) (get_or xs o d)
    → with_protos (o + 1) (drop (o + 1) xs) t ≡ with_protos o (drop o xs) s
unfolding with_protos
one_given o xs d s t h is =
    let e : o + 1 ≡ suc o = omega arith in
    ap (λ u. with_protos (o + 1) (drop (o + 1) xs) u) is
    ∙ ap (λ n. with_protos n (drop n xs) (with_its_proto s (record { 0 = o }) (get_or xs o d))) e
    ∙ ap (λ ys. with_protos o ys s) (sym (drop-cons xs o d h))

pub all_given : (o : ℕ) (xs : List Start) (s : ObjectStore) → length xs ≤ o → with_protos o (drop o xs) s ≡ s
unfolding with_protos
all_given o xs s h = ap (λ ys. with_protos o ys s) (drop_of_length-le xs h)
