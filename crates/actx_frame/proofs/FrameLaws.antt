-- What a frame wants now, and after an answer.
use Rattle.std.proofs.Common.{◌≡◌, List, [], ◌∷◌, Option, None, Ok, refl, sym, ap, ◌∙◌}
use Rattle.actx_value.specs.declared.ids.ScopeId.{ScopeId}
use Rattle.actx_value.specs.declared.value.Answer.{Answer}
use Rattle.actx_value.specs.declared.value.Value.{Value}
use Rattle.actx_value.specs.declared.value.Value.TheVariants as values
use Rattle.actx_value.specs.declared.request.Request.{Request}
use Rattle.actx_code.specs.declared.body.Body.{Body}
use Rattle.actx_want.specs.declared.completion.Completion.{Completion}
use Rattle.actx_want.specs.Run.{Run, Next', completion}
use Rattle.actx_want.specs.Bodies.{body_wants}
use Rattle.actx_frame_items.specs.declared.items.Item.{Item}
use Rattle.actx_frame_items.specs.declared.items.Control.TheVariants as controls
use Rattle.actx_frame_items.specs.Stack.{kept, control_work}
use Rattle.actx_frame.specs.declared.machine.Want.{Want}
use Rattle.actx_frame.specs.declared.machine.Want.TheVariants.{Ask, Return, Throw}
use Rattle.actx_frame.specs.declared.machine.Wanted.{Wanted}
use Rattle.actx_frame.specs.Machine.{rest_of, Settles}
use Rattle.actx_frame.specs.Frames.{wanted}

pub rest_wants : (w : Want) (list : List Value) (k : Next') → rest_of w list k [] ≡ wanted w list
unfolding rest_of
rest_wants (Ask q) list k = refl
rest_wants (Return v) list k = refl
rest_wants (Throw v) list k = refl

-- after an answer, what the work with its completion settles is wanted
pub goes_on : (x : Wanted) (q : Request) (list : List Value) (s t : List Item) (a : Answer) (c : Completion) (w : Want) → w ≡ Ask q → c ≡ completion a → Settles (Ok x) t (control_work (controls.Done c) (kept s)) → (more : List Answer) → rest_of x.want x.list.items (kept t) more ≡ rest_of w list (kept s) (a ∷ more)
unfolding Settles control_work rest_of
goes_on x q list s t a c w h e g more =
    ap (λ (f : Run). f more) g
    ∙ ap (λ d. kept s d more) e
    ∙ sym (ap (λ y. rest_of y list (kept s) (a ∷ more)) h)

-- an ended body stays as it is
pub stays : (w : Want) (list : List Value) (k : Next') (a : Answer) (more : List Answer) → ((q : Request) → w ≡ Ask q → ⊥) → rest_of w list k more ≡ rest_of w list k (a ∷ more)
unfolding rest_of
stays (Ask q) list k a more h = absurd (h q refl)
stays (Return v) list k a more h = refl
stays (Throw v) list k a more h = refl

pub no_body : (o : Option Body) (list : List Value) (k : Next') (s : ScopeId) → o ≡ None → rest_of (Return values.Undefined) list k ≡ body_wants o s
unfolding rest_of
no_body o list k s h = ap (λ x. body_wants x s) (sym h)
