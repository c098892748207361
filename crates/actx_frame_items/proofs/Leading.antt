-- What every piece of work may do: give up where there is no memory; and members of lists.
use Rattle.std.proofs.Common.{◌≡◌, ℕ, suc, ◌+◌, ◌<◌, List, ◌∷◌, length, drop, get_or, Result, Err, sym, ap, ◌∙◌, subst, arith}
use Rattle.std.proofs.Math.Seq.{drop-cons}
use Rattle.std.specs.declared.alloc.AllocError.{AllocError}
use Rattle.actx_frame_items.specs.declared.items.Next.{Next}
use Rattle.actx_frame_items.specs.Work.{Work}
use Rattle.actx_frame_items.specs.Stack.{Leads}

pub leads_error : (e : AllocError) (w : Work) → Leads (Err e) w
unfolding Leads
leads_error e w = tt

pub leads_by : (r : Result Next AllocError) (v w : Work) → v ≡ w → Leads r v → Leads r w
leads_by r v w e h = subst (Leads r) e h

-- a list from the member at this place on
pub dropped : {A : Type 0} (xs : List A) (i : ℕ) (x : A) → i < length xs → x ≡ get_or xs i x → drop i xs ≡ x ∷ drop (i + 1) xs
dropped xs i x lt g =
    let n : suc i ≡ i + 1 = omega arith in
    drop-cons xs i x lt ∙ ap (λ y. y ∷ drop (suc i) xs) (sym g) ∙ ap (λ m. x ∷ drop m xs) n
