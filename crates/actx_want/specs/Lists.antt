-- Lists of arguments and elements, with spread, and entries of objects (ECMA-262 §13.2.4, §13.2.5, §13.3.8).
use Rattle.std.specs.Prelude.{List, [], ◌∷◌, ◌++◌, if◌then◌else◌}
use Rattle.actx_text.specs.declared.body_id.BodyId.{BodyId}
use Rattle.actx_value.specs.declared.value.Value.{Value}
use Rattle.actx_value.specs.declared.request.Request.TheVariants as requests
use Rattle.actx_want.specs.declared.completion.Completion.TheVariants.{Normal}
use Rattle.actx_want.specs.Run.{Run, Next', Place, Meaning, Turn, ask, asks, on_value, before, is_mark, loop}

-- what is done with a list of values
abbrev pub WithList : Type 0
WithList = List Value → Run

-- what a list does, by the values so far, what is done with all of them, and where other completions go
abbrev pub Lister : Type 0
Lister = List Value → WithList → Next' → Run

-- a member of a list, by what the members after it do
abbrev pub Listed : Type 0
Listed = Place → Lister → Lister

-- ---- the items of a walk (§7.4.10)

-- an item came, or the mark
abbrev pub coming : WithList → WithList → List Value → Next' → Next'
coming again fin done k = on_value (λ v. if is_mark v then fin done else again (done ++ v ∷ [])) k

abbrev pub taking : Value → WithList → Next' → Turn (List Value)
taking walk fin k again done = on_value (λ _. ask (requests.Next walk) (coming again fin done k)) k

-- all items that are left, behind those before them
abbrev pub collected : Value → WithList → Next' → WithList
collected walk fin k = loop (taking walk fin k)

-- ---- members of a list

-- a value came
abbrev pub adding : Lister → List Value → WithList → Next' → Next'
adding rest done fin k = on_value (λ v. rest (done ++ v ∷ []) fin k) k

abbrev pub single : Meaning → Listed
single e p rest done fin k = e p (adding rest done fin k)

-- `...` (§13.3.8.1): a walk came
abbrev pub opened : Lister → List Value → WithList → Next' → Next'
opened rest done fin k = on_value (λ walk. collected walk (λ all. rest all fin k) k done) k

-- the value that is walked came
abbrev pub opening : Lister → List Value → WithList → Next' → Next'
opening rest done fin k = on_value (λ v. ask (requests.Open v) (opened rest done fin k)) k

abbrev pub spread : Meaning → Listed
spread e p rest done fin k = e p (opening rest done fin k)

-- the members, first to last
unfoldable pub listed : List Listed → Place → Lister
listed [] p done fin k = fin done
listed (m ∷ ms) p done fin k = m p (listed ms p) done fin k

-- `[ .. ]` (§13.2.4.2)
abbrev pub array : List Listed → Meaning
array ms p k = listed ms p [] (λ list. asks requests.Array list k) k

-- ---- entries of an object (§13.2.5.5)

-- a key, and what is done with it
abbrev pub Keyed : Type 0
Keyed = Place → (Value → Run) → Next' → Run

-- an entry of this object
abbrev pub Filling : Type 0
Filling = Place → Value → Next' → Run

-- a value came
abbrev pub defining : Value → Value → Next' → Next'
defining object key k = on_value (λ v. ask (requests.Define object key v) k) k

abbrev pub pair : Keyed → Meaning → Filling
pair key e p object k = key p (λ name. e p (defining object name k)) k

-- a method, whose home is the object (§15.4.4)
abbrev pub method : Keyed → BodyId → Filling
method key body p object k = key p (λ name. ask (requests.Method body p object) (defining object name k)) k

-- `...`: a value came, whose properties are copied
abbrev pub copying : Value → Next' → Next'
copying object k = on_value (λ v. ask (requests.Copy object v) k) k

abbrev pub copied : Meaning → Filling
copied e p object k = e p (copying object k)

unfoldable pub filled : List Filling → Filling
filled [] p object k = k (Normal object)
filled (f ∷ fs) p object k = f p object (before (filled fs p object k) k)

-- the new object came
abbrev pub filling : List Filling → Place → Next' → Next'
filling fs p k = on_value (λ object. filled fs p object k) k

abbrev pub object : List Filling → Meaning
object fs p k = ask requests.Object (filling fs p k)
