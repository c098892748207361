use Rattle.std.proofs.Common.{◌≡◌, ◌<◌, ◌∙◌, sym, ap, arith, true, false, Some, None, if◌then◌else◌}
use Rattle.std.specs.Prelude.{slice_get, option_and_then, unwrap_or}
use Rattle.actx_event.specs.declared.value.Shown.{Shown}
use Rattle.actx_event.specs.declared.value.Shown.TheVariants.{Undefined}
use Rattle.actx_event.specs.Event.{value_bound}
use Rattle.actx_event.specs.Front.{front}
use Rattle.actx_event.specs.Walk.{default_of, left_by_off, nearest_binding}
use Rattle.actx_event.specs.Numbers.{met_number, declaration_at, is_off_between, value_at}
use Rattle.actx_event.proofs.Searches.{copy_along}
use Rattle.actx_event.proofs.WalkByNumber.{met_below}
use Rattle.actx_event.proofs.NearestByNumber.{nearest_agrees}
use Rattle.actx_event.proofs.walk.nearest_binding.Goals as goal

pub bound_value-requires : goal.bound_value-requires
bound_value-requires c =
    let met : met_number c.args.log.now c.args.place c.args.variable.0 ≡ Some c.in-Some.met = cc (c.in_ok-met_binding.ensures, c.in-Some.is) in
    let below : c.in-Some.met < c.args.place = met_below c.args.log.now c.args.place c.args.variable.0 c.in-Some.met c.requires met in
    omega (arith, below, c.requires)

pub returns-in-None : goal.returns-in-None
returns-in-None c =
    let log = c.args.log.now in
    let p = c.args.place in
    let v = c.args.variable.0 in
    let met : met_number log p v ≡ None = cc (c.in_ok-met_binding.ensures, c.in-None.is) in
    copy_along c.default_value.result (default_of (declaration_at v log p)) (nearest_binding (front log p) v) (sym (nearest_agrees log p v c.requires ∙ ap (λ m. value_at m log p v) met)) c.default_value.ensures

pub returns-then-is_off_between : goal.returns-then-is_off_between
returns-then-is_off_between c =
    let log = c.args.log.now in
    let p = c.args.place in
    let v = c.args.variable.0 in
    let n = c.in-Some.met in
    let met : met_number log p v ≡ Some n = cc (c.in_ok-met_binding.ensures, c.in-Some.is) in
    let off : is_off_between v log n p ≡ true = sym c.is_off_between.ensures ∙ c.if-is_off_between.true in
    sym (nearest_agrees log p v c.requires ∙ (ap (λ m. value_at m log p v) met ∙ ap (λ t. if t then left_by_off (declaration_at v log p) else unwrap_or (option_and_then (value_bound v) (slice_get log n)) Undefined) off))

pub returns-else-is_off_between : goal.returns-else-is_off_between
returns-else-is_off_between c =
    let log = c.args.log.now in
    let p = c.args.place in
    let v = c.args.variable.0 in
    let n = c.in-Some.met in
    let met : met_number log p v ≡ Some n = cc (c.in_ok-met_binding.ensures, c.in-Some.is) in
    let off : is_off_between v log n p ≡ false = sym c.is_off_between.ensures ∙ c.if-is_off_between.false in
    let value : Shown = unwrap_or (option_and_then (value_bound v) (slice_get log n)) Undefined in
    copy_along c.bound_value.result value (nearest_binding (front log p) v) (sym (nearest_agrees log p v c.requires ∙ (ap (λ m. value_at m log p v) met ∙ ap (λ t. if t then left_by_off (declaration_at v log p) else unwrap_or (option_and_then (value_bound v) (slice_get log n)) Undefined) off))) c.bound_value.ensures
