-- What a run doesn't change: what may be done with a body, what the built-in functions do, and the code.
use Rattle.std.specs.Prelude.{ℕ, Bool, List, Option}
use Rattle.actx_text.specs.declared.body_id.BodyId.{BodyId}
use Rattle.actx_value.specs.declared.ids.ObjId.{ObjId}
use Rattle.actx_value.specs.declared.ids.ScopeId.{ScopeId}
use Rattle.actx_value.specs.declared.ids.TextId.{TextId}
use Rattle.actx_value.specs.declared.value.Value.{Value}
use Rattle.actx_value.specs.declared.value.Answer.{Answer}
use Rattle.actx_value.specs.declared.error_kind.ErrorKind.{ErrorKind}
use Rattle.actx_value.specs.declared.end.Reason.{Reason}
use Rattle.actx_value.specs.declared.caller_id.CallerId.{CallerId}
use Rattle.actx_code.specs.Codes.{Lists}
use Rattle.actx_request.specs.declared.home.Home.{Home}
use Rattle.actx_request.specs.Outcomes.{Stores}
use Rattle.actx_want.specs.Run.{Wants}

-- what may be done with a body: what it wants, with one answer more, and at its beginning in a scope
pub record Bodies (B : Type 0) : Type 0 where
  pub wants : B → Wants
  pub after : Answer → B → B
  pub begin : BodyId → ScopeId → B

-- what a built-in function is called as: one that reads and writes the stores alone, one that the machine answers, or one
-- of the bundled functions, by its place among them
pub data Called : Type 0 where
  Native : Called
  Caller : (c : CallerId) → Called
  Bundled : (i : ℕ) → Called

-- what a built-in function that reads and writes the stores alone gives
pub data NativeOut : Type 0 where
  Gives : (v : Value) → NativeOut
  Throws : (e : ErrorKind) → NativeOut
  OutOfProfile : (r : Reason) → NativeOut
  -- the run ends with this status (`process.exit`)
  Exits : (status : ℕ) → NativeOut
  -- a line is printed (`console.log`)
  Prints : (line : List ℕ) → NativeOut

-- the same with the stores that it leaves, where no limit is looked at
pub record NativeOutcome : Type 0 where
  pub out : NativeOut
  pub stores : Stores

-- the texts that `typeof` gives (ECMA-262 §13.5.3)
pub record TypeWords : Type 0 where
  pub undefined : TextId
  pub object : TextId
  pub boolean : TextId
  pub number : TextId
  pub string : TextId
  pub function : TextId

-- the built-in objects, as far as moves look at them
pub record Builtins : Type 0 where
  -- what a function is called as, and None for every other object
  pub called_as : ObjId → Option Called
  -- a call of a native with this `this`, these arguments, and the new target where it is called by `new` or `super(..)`
  pub native : ObjId → Value → List Value → Option ObjId → Stores → NativeOutcome
  -- whether a built-in function is a constructor (§7.2.4), and whether a class may extend it
  pub constructs : ObjId → Bool
  pub extends : ObjId → Bool
  pub home : Home
  -- the prototype of functions (§20.2.3)
  pub function : ObjId
  -- the prototype of errors (§20.5.6.3), and the text of a message
  pub error : ErrorKind → ObjId
  pub message_text : ErrorKind → TextId
  pub words : TypeWords
  -- the names `name`, `prototype`, `constructor` and `message`
  pub name : TextId
  pub prototype : TextId
  pub constructor : TextId
  pub message : TextId
  -- the scope of the global names, and that of the bundled functions
  pub global : ScopeId
  pub bundle : ScopeId

pub record Setup : Type 0 where
  pub code : Lists
  pub builtins : Builtins
