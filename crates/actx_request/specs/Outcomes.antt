-- What a request gives, and the objects, texts and scopes that it leaves, where no limit is looked at.
use Rattle.std.specs.Prelude.{ℕ, List}
use Rattle.actx_value.specs.Texts.{TextStore, with_text, added_number}
use Rattle.actx_value.specs.declared.value.Value.{Value}
use Rattle.actx_value.specs.declared.value.Value.TheVariants.{Text}
use Rattle.actx_value.specs.declared.value.Answer.TheVariants.{Go}
use Rattle.actx_value.specs.declared.error_kind.ErrorKind.{ErrorKind}
use Rattle.actx_value.specs.declared.end.Reason.{Reason}
use Rattle.actx_cells.specs.Scopes.{Scope, ScopeStore}
use Rattle.actx_objects.specs.Objects.{ObjectStore}
use Rattle.actx_request.specs.declared.given.Given.{Given}
use Rattle.actx_request.specs.declared.given.Given.TheVariants.{Answer, Throw, OutOfProfile}

pub record Stores : Type 0 where
  pub objects : ObjectStore
  pub texts : TextStore
  pub cells : ScopeStore

pub record Outcome : Type 0 where
  pub given : Given
  pub stores : Stores

abbrev pub stores : ObjectStore → TextStore → ScopeStore → Stores
stores objects texts cells = record { objects = objects; texts = texts; cells = cells }

-- the body goes on with a value
abbrev pub gives : Value → Stores → Outcome
gives v s = record { given = Answer (Go v); stores = s }

abbrev pub throws : ErrorKind → Stores → Outcome
throws e s = record { given = Throw e; stores = s }

abbrev pub leaves_profile : Reason → Stores → Outcome
leaves_profile r s = record { given = OutOfProfile r; stores = s }

-- the stores with other objects, texts or scopes
abbrev pub with_objects : ObjectStore → Stores → Stores
with_objects objects s = stores objects s.texts s.cells

abbrev pub with_texts : List (List ℕ) → Stores → Stores
with_texts texts s = stores s.objects (record { texts = texts; limit = s.texts.limit }) s.cells

abbrev pub with_scopes : List Scope → Stores → Stores
with_scopes scopes s = stores s.objects s.texts (record { scopes = scopes; limit = s.cells.limit })

-- the body goes on with a new text
abbrev pub gives_text : List ℕ → Stores → Outcome
gives_text text s = gives (Text (record { 0 = added_number s.texts.texts text })) (with_texts (with_text s.texts.texts text) s)
