-- Keys, members of objects, `delete` and `super.name` (ECMA-262 §13.3.2, §13.3.7, §13.3.9, §13.5.1).
use Rattle.std.specs.Prelude.{ℕ, List, [], ◌∷◌, Bool, true, if◌then◌else◌, ◌&&◌}
use Rattle.actx_value.specs.declared.value.Value.{Value}
use Rattle.actx_value.specs.declared.value.Value.TheVariants as values
use Rattle.actx_value.specs.declared.request.Request.TheVariants as requests
use Rattle.actx_want.specs.declared.completion.Completion.TheVariants.{Normal}
use Rattle.actx_want.specs.Run.{Run, Next', Place, Meaning, ask, on_value, is_nullish}
use Rattle.actx_want.specs.Names.{Access, Changing}
use Rattle.actx_want.specs.Lists.{Keyed}

-- ---- keys

-- a key that is written down
abbrev pub plain : Value → Keyed
plain name p f k = f name

-- the value in the brackets came (ToPropertyKey, §7.1.19)
abbrev pub keying : (Value → Run) → Next' → Next'
keying f k = on_value (λ v. ask (requests.ToKey v) (on_value f k)) k

abbrev pub computed : Meaning → Keyed
computed e p f k = e p (keying f k)

-- ---- changes of members

abbrev pub member_of : Value → Value → Access
member_of object key = record { read = λ k. ask (requests.Get object key) k; write = λ v k. ask (requests.Set object key v) k }

-- the object came
abbrev pub at_object : Keyed → Changing → Place → Next' → Next'
at_object key change p k = on_value (λ object. key p (λ name. change (member_of object name) p k) k) k

abbrev pub change_member : Meaning → Keyed → Changing → Meaning
change_member object key change p k = object p (at_object key change p k)

-- ---- suffixes

-- what is done with a value of a chain, and with the receiver of a call of it
abbrev pub WithReceiver : Type 0
WithReceiver = Value → Value → Run

-- what a suffix does with a receiver and a value: what comes after it, what is done where `?.` stops the chain, and
-- where other completions go (§13.3.9.1)
abbrev pub Suffixed : Type 0
Suffixed = Place → WithReceiver → Run → Next' → WithReceiver

-- whether `?.` stops the chain at this value
abbrev pub stops : Bool → Value → Bool
stops optional v = optional && is_nullish v

-- `.name` or `[ .. ]` of a value: the value is the receiver
abbrev pub got : WithReceiver → Value → Next' → Next'
got fin v k = on_value (λ w. fin v w) k

abbrev pub member : Bool → Keyed → Suffixed
member optional key p fin stop k receiver v =
    if stops optional v then stop else key p (λ name. ask (requests.Get v name) (got fin v k)) k

unfoldable pub suffixed : List Suffixed → Suffixed
suffixed [] p fin stop k receiver v = fin receiver v
suffixed (s ∷ ss) p fin stop k receiver v = s p (λ r w. suffixed ss p fin stop k r w) stop k receiver v

abbrev pub giving : Next' → WithReceiver
giving k receiver v = k (Normal v)

-- the first value of a chain came; it has no receiver
abbrev pub suffixing : List Suffixed → Place → Next' → Next'
suffixing ss p k = on_value (λ v. suffixed ss p (giving k) (k (Normal values.Undefined)) k values.Undefined v) k

-- a chain of suffixes
abbrev pub suffixes : Meaning → List Suffixed → Meaning
suffixes base ss p k = base p (suffixing ss p k)

-- ---- `delete` (§13.5.1.2)

-- the object came; `?.` gives true
abbrev pub deleting : Bool → Keyed → Place → Next' → WithReceiver
deleting optional key p k receiver v =
    if stops optional v then k (Normal (values.Bool true)) else key p (λ name. ask (requests.Delete v name) k) k

abbrev pub deleting_from : List Suffixed → Bool → Keyed → Place → Next' → Next'
deleting_from ss optional key p k = on_value (λ v. suffixed ss p (deleting optional key p k) (k (Normal (values.Bool true))) k values.Undefined v) k

abbrev pub delete : Meaning → List Suffixed → Bool → Keyed → Meaning
delete base ss optional key p k = base p (deleting_from ss optional key p k)

-- ---- `super.name` (§13.3.7.1, MakeSuperPropertyReference §13.3.7.3)

-- `this` is the receiver
abbrev pub super_got : List Suffixed → Place → Value → Next' → Next'
super_got ss p this k = on_value (λ v. suffixed ss p (giving k) (k (Normal values.Undefined)) k this v) k

-- `this` came
abbrev pub super_this : Value → List Suffixed → Value → Place → Next' → Next'
super_this key ss home p k = on_value (λ this. ask (requests.SuperGet home key this) (super_got ss p this k)) k

-- the home object came
abbrev pub super_home : ℕ → Value → List Suffixed → Place → Next' → Next'
super_home hops key ss p k = on_value (λ home. ask (requests.Load p hops 0) (super_this key ss home p k)) k

abbrev pub super_member : ℕ → Value → List Suffixed → Meaning
super_member hops key ss p k = ask (requests.Load p hops 2) (super_home hops key ss p k)
