use Rattle.std.proofs.Common.{◌≡◌, Bool, false, ℤ, pos, negsuc, sym, ap, ◌∙◌, subst, rules}
use Rattle.std.proofs.lemmas.Int.{to_z-of_z}
use mir.Val.{SFits, of_z, to_z}
use mir.Syntax.{w64}
use Rattle.std.specs.declared.result.Result.{Result}
use Rattle.std.specs.declared.result.Result.TheVariants.{Ok}
use Rattle.actx_ops.specs.Numbers.{is_below_zero}
use Rattle.actx_value.specs.declared.ids.ObjId.{ObjId}
use Rattle.actx_value.specs.declared.value.Key.{Key}
use Rattle.actx_value.specs.declared.value.Value.TheVariants.{Num}
use Rattle.actx_value.specs.declared.end.Reason.{Reason}
use Rattle.actx_request.specs.declared.given.Given.{Given}
use Rattle.actx_request.specs.Outcomes.{Stores, stores}
use Rattle.actx_request.specs.Limits.{IsMet}
use Rattle.actx_request.specs.Writes.{write_to, length_written}
use Rattle.actx_request.proofs.writes.write_length.Goals as goal

-- a number from 0 is written as it is
from_zero : (hidden : Bool) (o : ObjId) (k : Key) (n : ℤ) → is_below_zero n ≡ false → (s : Stores) (g : Given) (t : Stores) → IsMet (write_to hidden o k (Num n) s) s g t → IsMet (length_written hidden o k (Ok n) s) s g t
from_zero hidden o k (pos n) h s g t m = m
from_zero hidden o k (negsuc n) h s g t m = absurd (cc)

pub returns : goal.returns
returns c cells =
    let s : Stores = stores c.args.objects.now c.args.texts.now cells in
    let t : Stores = stores c.write.new.objects c.args.texts.now cells in
    let P : Result ℤ Reason → Type 0 = λ r. IsMet (length_written c.args.hidden c.args.o c.args.k r s) s c.in_ok-write.field-0 t in
    let fit : SFits w64 c.in-Ok.n = search rules in
    let read : is_below_zero (to_z w64 (of_z w64 c.in-Ok.n)) ≡ false = sym c.is_below_zero.ensures ∙ c.if-is_below_zero.false in
    let above : is_below_zero c.in-Ok.n ≡ false = sym (ap is_below_zero (to_z-of_z w64 c.in-Ok.n fit)) ∙ read in
    subst P (sym c.in-Ok.is) (from_zero c.args.hidden c.args.o c.args.k c.in-Ok.n above s c.in_ok-write.field-0 t (rw (to_z-of_z w64 c.in-Ok.n fit) at (c.in_ok-write.ensures cells)))
