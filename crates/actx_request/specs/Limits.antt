-- Limits: a request whose counts would go above one gives the first of these, and not its answer.
use Rattle.std.specs.Prelude.{◌≡◌, ℕ, Bool, ◌&&◌, nat_lt, length, Option, Some, None, if◌then◌else◌}
use Rattle.actx_value.specs.Texts.{TextStore, units_of}
use Rattle.actx_value.specs.declared.end.Which.{Which}
use Rattle.actx_value.specs.declared.end.Which.TheVariants.{Objects, Properties, Cells, Text}
use Rattle.actx_cells.specs.Scopes.{ScopeStore, count_of}
use Rattle.actx_objects.specs.Objects.{ObjectStore, property_count}
use Rattle.actx_request.specs.declared.given.Given.{Given}
use Rattle.actx_request.specs.declared.given.Given.TheVariants.{Answer, Throw, Limit}
use Rattle.actx_request.specs.Outcomes.{Stores, Outcome, stores}

-- whether a count goes above its limit
abbrev pub goes_above : ℕ → ℕ → ℕ → Bool
goes_above limit before after = nat_lt before after && nat_lt limit after

abbrev pub objects_above : ObjectStore → ObjectStore → Bool
objects_above before after = goes_above before.most_objects (length before.objects) (length after.objects)

abbrev pub properties_above : ObjectStore → ObjectStore → Bool
properties_above before after = goes_above before.most_properties (property_count before.objects) (property_count after.objects)

abbrev pub cells_above : ScopeStore → ScopeStore → Bool
cells_above before after = goes_above before.limit (count_of before.scopes) (count_of after.scopes)

abbrev pub text_above : TextStore → TextStore → Bool
text_above before after = goes_above before.limit (units_of before.texts) (units_of after.texts)

-- the first count that goes above its limit, in the order in which the limits are looked at
abbrev pub first_above : Stores → Stores → Option Which
first_above before after =
    if objects_above before.objects after.objects then Some Objects
    else if properties_above before.objects after.objects then Some Properties
    else if cells_above before.cells after.cells then Some Cells
    else if text_above before.texts after.texts then Some Text
    else None

-- a limit comes after a throw and the end of the profile
abbrev pub within : Given → Option Which → Given
within (Answer a) (Some w) = Limit w
within g w = g

-- the stores that are left; after the end of the profile or a limit nothing is said of them
abbrev pub Leaves : Given → Stores → Stores → Type 0
Leaves (Answer a) left s = s ≡ left
Leaves (Throw e) left s = s ≡ left
Leaves g left s = Unit {0}

-- a request with this outcome, which met `before`, gave g and left `after`
abbrev pub IsMet : Outcome → Stores → Given → Stores → Type 0
IsMet o before g after = (g ≡ within o.given (first_above before o.stores)) × Leaves g o.stores after

-- a request that does f to the stores
abbrev pub Meets : (Stores → Outcome) → Stores → Given → Stores → Type 0
Meets f before g after = IsMet (f before) before g after

-- the same, whatever the stores are that it leaves alone
abbrev pub MeetsAlone : (Stores → Outcome) → Given → Type 0
MeetsAlone f g = (s : Stores) → Meets f s g s

abbrev pub MeetsCells : (Stores → Outcome) → ScopeStore → Given → ScopeStore → Type 0
MeetsCells f before g after = (objects : ObjectStore) (texts : TextStore) → Meets f (stores objects texts before) g (stores objects texts after)

abbrev pub MeetsTexts : (Stores → Outcome) → TextStore → Given → TextStore → Type 0
MeetsTexts f before g after = (objects : ObjectStore) (cells : ScopeStore) → Meets f (stores objects before cells) g (stores objects after cells)

abbrev pub MeetsObjects : (Stores → Outcome) → ObjectStore → TextStore → Given → ObjectStore → TextStore → Type 0
MeetsObjects f objects texts g objects' texts' = (cells : ScopeStore) → Meets f (stores objects texts cells) g (stores objects' texts' cells)

abbrev pub MeetsObjectsAlone : (Stores → Outcome) → ObjectStore → Given → ObjectStore → Type 0
MeetsObjectsAlone f before g after = (texts : TextStore) → MeetsObjects f before texts g after texts
