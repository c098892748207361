-- Classes (ClassDefinitionEvaluation, ECMA-262 §15.7.14).
use Rattle.std.specs.Prelude.{List, [], ◌∷◌, Bool, true, false, if◌then◌else◌, Option, Some, None}
use Rattle.actx_text.specs.declared.body_id.BodyId.{BodyId}
use Rattle.actx_value.specs.declared.value.Value.{Value}
use Rattle.actx_value.specs.declared.request.Request.TheVariants as requests
use Rattle.actx_code.specs.declared.item.ClassMember.{ClassMember}
use Rattle.actx_want.specs.declared.completion.Completion.TheVariants.{Normal}
use Rattle.actx_want.specs.Run.{Next', Place, Meaning, ask, on_value, before}

-- whether a member isn't static
unfoldable pub stands_on_prototype : List ClassMember → Bool
stands_on_prototype [] = false
stands_on_prototype (m ∷ ms) = if m.is_static then stands_on_prototype ms else true

-- a method came: a hidden property of its home (DefineMethodProperty, §10.2.8)
abbrev pub method_made : Value → Value → Next' → Next'
method_made home key k = on_value (λ v. ask (requests.DefineMethod home key v) k) k

-- a static member stands on the class, any other on the prototype object
abbrev pub home_of : ClassMember → Value → Value → Value
home_of m f prototype = if m.is_static then f else prototype

-- the members, one after another; the class is given (ClassElementEvaluation, §15.7.13)
unfoldable pub members_of : List ClassMember → Value → Value → Meaning
members_of [] f prototype p k = k (Normal f)
members_of (m ∷ ms) f prototype p k =
    ask (requests.Method m.body p (home_of m f prototype)) (method_made (home_of m f prototype) m.key (before (members_of ms f prototype p k) k))

-- the prototype object came
abbrev pub prototype_got : List ClassMember → Value → Place → Next' → Next'
prototype_got ms f p k = on_value (λ prototype. members_of ms f prototype p k) k

-- the class came
abbrev pub class_made : Value → List ClassMember → Place → Next' → Next'
class_made key ms p k = on_value (λ f. if stands_on_prototype ms then ask (requests.Get f key) (prototype_got ms f p k) else members_of ms f f p k) k

-- the parent came
abbrev pub extending : BodyId → Value → List ClassMember → Place → Next' → Next'
extending constructor key ms p k = on_value (λ v. ask (requests.Class constructor p (Some v)) (class_made key ms p k)) k

abbrev pub class : BodyId → Option Meaning → Value → List ClassMember → Meaning
class constructor None key ms p k = ask (requests.Class constructor p None) (class_made key ms p k)
class constructor (Some parent) key ms p k = parent p (extending constructor key ms p k)
