-- Worked examples: what some forms want, answer by answer.
use Rattle.std.specs.Prelude.{ℕ, ◌≡◌, List, [], ◌∷◌, Some, None, pos, true}
use Rattle.actx_value.specs.declared.ids.ScopeId.{ScopeId}
use Rattle.actx_value.specs.declared.value.Value.{Value}
use Rattle.actx_value.specs.declared.value.Value.TheVariants as values
use Rattle.actx_value.specs.declared.value.Answer.{Answer}
use Rattle.actx_value.specs.declared.value.Answer.TheVariants.{Go, Raise, Finish}
use Rattle.actx_value.specs.declared.request.Request.TheVariants as requests
use Rattle.actx_value.specs.declared.operator.BinaryOp.{BinaryOp}
use Rattle.actx_value.specs.declared.operator.BinaryOp.TheVariants as binary
use Rattle.actx_value.specs.declared.operator.UnaryOp.TheVariants as unary
use Rattle.actx_tree.specs.declared.operator.StepOp.TheVariants as steps
use Rattle.actx_want.specs.declared.completion.Completion.TheVariants.{Normal, Break}
use Rattle.actx_want.specs.Run.{Asks, Returns, Throws, Run, Place, Meaning}
use Rattle.actx_want.specs.Names.{changed_by_operator, changed_before, name, change_name}
use Rattle.actx_want.specs.Members.{computed, change_member}
use Rattle.actx_want.specs.Functions.{yielded}
use Rattle.actx_want.specs.Patterns.{slot}
use Rattle.actx_want.specs.Statements.{init, returned, thrown}
use Rattle.actx_want.specs.Loops.{let_loop, of_loop}
use Rattle.actx_want.specs.Tries.{try}
use Rattle.actx_want.specs.Bodies.{end_of}

-- a value that is written down
abbrev pub literal : Value → Meaning
literal v p k = k (Normal v)

-- `break` of the loop right around it
abbrev pub broken : Meaning
broken p k = k (Break 0)

-- what a body wants that does this alone
abbrev pub wanted : Meaning → Place → Run
wanted m p = m p end_of

-- ---- `object[key] op= right`: the key first, then the old value, the operator, and the write

abbrev pub update : BinaryOp → Value → Value → Value → Meaning
update op object key right = change_member (literal object) (computed (literal key)) (changed_by_operator op (literal right))

pub record UpdateWants (op : BinaryOp) (object key right name old new v : Value) (p : Place) : Type 0 where
  pub first : wanted (update op object key right) p [] ≡ Asks (requests.ToKey key) []
  pub second : wanted (update op object key right) p (Go name ∷ []) ≡ Asks (requests.Get object name) []
  pub third : wanted (update op object key right) p (Go name ∷ Go old ∷ []) ≡ Asks (requests.Binary op old right) []
  pub fourth : wanted (update op object key right) p (Go name ∷ Go old ∷ Go new ∷ []) ≡ Asks (requests.Set object name new) []
  pub last : wanted (update op object key right) p (Go name ∷ Go old ∷ Go new ∷ Go v ∷ []) ≡ Returns values.Undefined
  -- where the operator throws, nothing is written
  pub thrown : wanted (update op object key right) p (Go name ∷ Go old ∷ Raise v ∷ []) ≡ Throws v

abbrev pub UpdatesInOrder : Type 0
UpdatesInOrder = (op : BinaryOp) (object key right name old new v : Value) (p : Place) → UpdateWants op object key right name old new v p

-- ---- `for (let i = start; i; ++i) ;`: the head's scope and a copy of it; at the end of each turn a copy, and then the update

abbrev pub counting : Value → Meaning
counting start = let_loop 1 (init 0 (literal start)) (name 0 0) (change_name 0 0 (changed_before steps.Increment)) (literal values.Undefined)

-- the answers up to the first test, where the scopes a and b were given
abbrev pub to_first_test : ScopeId → ScopeId → List Answer → List Answer
to_first_test a b more = Go (values.Scope a) ∷ Go values.Undefined ∷ Go (values.Scope b) ∷ Go values.Undefined ∷ more

pub record CountingWants (start old number new v : Value) (p : Place) (a b c : ScopeId) : Type 0 where
  pub scope : wanted (counting start) p [] ≡ Asks (requests.Scope p 1) []
  pub declared : wanted (counting start) p (Go (values.Scope a) ∷ []) ≡ Asks (requests.Init a 0 0 start) []
  pub copy : wanted (counting start) p (Go (values.Scope a) ∷ Go values.Undefined ∷ []) ≡ Asks (requests.Fork a) []
  pub turn : wanted (counting start) p (Go (values.Scope a) ∷ Go values.Undefined ∷ Go (values.Scope b) ∷ []) ≡ Asks requests.Tick []
  pub test : wanted (counting start) p (to_first_test a b []) ≡ Asks (requests.Load b 0 0) []
  -- a test that doesn't hold ends the loop
  pub ends : wanted (counting start) p (to_first_test a b (Go (values.Num (pos 0)) ∷ [])) ≡ Returns values.Undefined
  -- one that holds leads to the next copy, in which the update runs
  pub next_copy : wanted (counting start) p (to_first_test a b (Go (values.Bool true) ∷ [])) ≡ Asks (requests.Fork b) []
  pub read : wanted (counting start) p (to_first_test a b (Go (values.Bool true) ∷ Go (values.Scope c) ∷ [])) ≡ Asks (requests.Load c 0 0) []
  pub to_number : wanted (counting start) p (to_first_test a b (Go (values.Bool true) ∷ Go (values.Scope c) ∷ Go old ∷ [])) ≡ Asks (requests.Unary unary.ToNumber old) []
  pub add : wanted (counting start) p (to_first_test a b (Go (values.Bool true) ∷ Go (values.Scope c) ∷ Go old ∷ Go number ∷ [])) ≡ Asks (requests.Binary binary.Add number (values.Num (pos 1))) []
  pub write : wanted (counting start) p (to_first_test a b (Go (values.Bool true) ∷ Go (values.Scope c) ∷ Go old ∷ Go number ∷ Go new ∷ [])) ≡ Asks (requests.Store c 0 0 new) []
  pub next_turn : wanted (counting start) p (to_first_test a b (Go (values.Bool true) ∷ Go (values.Scope c) ∷ Go old ∷ Go number ∷ Go new ∷ Go v ∷ [])) ≡ Asks requests.Tick []

abbrev pub CountsInCopies : Type 0
CountsInCopies = (start old number new v : Value) (p : Place) (a b c : ScopeId) → CountingWants start old number new v p a b c

-- ---- `for (const x of value) body`, left early: the walk is closed, and then the body's completion goes on

abbrev pub walk_over : Value → Meaning → Meaning
walk_over value body = of_loop 1 (slot 0) (literal value) body

-- the answers up to the body, where the walk and a scope were given, and an item
abbrev pub to_body : Value → Value → ScopeId → List Answer → List Answer
to_body walk item s more = Go walk ∷ Go values.Undefined ∷ Go item ∷ Go (values.Scope s) ∷ Go values.Undefined ∷ more

pub record WalkWants (value walk v w : Value) (o : ℕ) (p : Place) (s : ScopeId) : Type 0 where
  pub opens : wanted (walk_over value broken) p [] ≡ Asks (requests.Open value) []
  pub turn : wanted (walk_over value broken) p (Go walk ∷ []) ≡ Asks requests.Tick []
  pub next : wanted (walk_over value broken) p (Go walk ∷ Go values.Undefined ∷ []) ≡ Asks (requests.Next walk) []
  -- a mark ends it, and a throw of Next closes nothing
  pub ends : wanted (walk_over value broken) p (Go walk ∷ Go values.Undefined ∷ Go values.Mark ∷ []) ≡ Returns values.Undefined
  pub fails : wanted (walk_over value broken) p (Go walk ∷ Go values.Undefined ∷ Raise v ∷ []) ≡ Throws v
  pub scope : wanted (walk_over value broken) p (Go walk ∷ Go values.Undefined ∷ Go (values.Num (pos o)) ∷ []) ≡ Asks (requests.Scope p 1) []
  pub target : wanted (walk_over value broken) p (Go walk ∷ Go values.Undefined ∷ Go (values.Num (pos o)) ∷ Go (values.Scope s) ∷ []) ≡ Asks (requests.Init s 0 0 (values.Num (pos o))) []
  -- `break`
  pub closes : wanted (walk_over value broken) p (to_body walk (values.Num (pos o)) s []) ≡ Asks (requests.Close walk) []
  pub breaks : wanted (walk_over value broken) p (to_body walk (values.Num (pos o)) s (Go w ∷ [])) ≡ Returns values.Undefined
  -- `return v`; a throw of closing takes its place
  pub closes_first : wanted (walk_over value (returned (literal v))) p (to_body walk (values.Num (pos o)) s []) ≡ Asks (requests.Close walk) []
  pub returns : wanted (walk_over value (returned (literal v))) p (to_body walk (values.Num (pos o)) s (Go w ∷ [])) ≡ Returns v
  pub closing_fails : wanted (walk_over value (returned (literal v))) p (to_body walk (values.Num (pos o)) s (Raise w ∷ [])) ≡ Throws w
  -- `throw v` wins over a throw of closing
  pub throws : wanted (walk_over value (thrown (literal v))) p (to_body walk (values.Num (pos o)) s (Raise w ∷ [])) ≡ Throws v

abbrev pub ClosesWhatItLeaves : Type 0
ClosesWhatItLeaves = (value walk v w : Value) (o : ℕ) (p : Place) (s : ScopeId) → WalkWants value walk v w o p s

-- ---- `try { yield a } finally { yield b }`, finished by `return`: the finally block runs, and then the body returns

abbrev pub guarded : Value → Value → Meaning
guarded a b = try (yielded (literal a)) None (Some (yielded (literal b)))

pub record GuardedWants (a b v w : Value) (p : Place) : Type 0 where
  pub first : wanted (guarded a b) p [] ≡ Asks (requests.Yield a) []
  pub finished : wanted (guarded a b) p (Finish v ∷ []) ≡ Asks (requests.Yield b) []
  pub returns : wanted (guarded a b) p (Finish v ∷ Go w ∷ []) ≡ Returns v
  pub raised : wanted (guarded a b) p (Raise v ∷ Go w ∷ []) ≡ Throws v
  -- an abrupt end of the finally block takes the place of the completion before it
  pub replaced : wanted (guarded a b) p (Raise v ∷ Finish w ∷ []) ≡ Returns w

abbrev pub FinishesInOrder : Type 0
FinishesInOrder = (a b v w : Value) (p : Place) → GuardedWants a b v w p
