-- What the work between two requests leads to.
use Rattle.std.specs.Prelude.{◌≡◌, List, Result, Ok, Err}
use Rattle.std.specs.declared.alloc.AllocError.{AllocError}
use Rattle.actx_value.specs.declared.value.Value.{Value}
use Rattle.actx_value.specs.declared.value.Value.TheVariants as values
use Rattle.actx_want.specs.declared.completion.Completion.{Completion}
use Rattle.actx_want.specs.declared.completion.Completion.TheVariants.{Normal, Break, Continue, Return, Throw}
use Rattle.actx_want.specs.Run.{Wants, Returns, Throws, Run, Next', asks}
use Rattle.actx_frame_items.specs.declared.items.Item.{Item}
use Rattle.actx_frame_items.specs.declared.items.Control.{Control}
use Rattle.actx_frame.specs.declared.machine.Want.{Want}
use Rattle.actx_frame.specs.declared.machine.Want.TheVariants as wants
use Rattle.actx_frame.specs.declared.machine.Wanted.{Wanted}
use Rattle.actx_frame.specs.declared.machine.Piece.{Piece}
use Rattle.actx_frame.specs.declared.machine.Piece.TheVariants as pieces
use Rattle.actx_frame_items.specs.Work.{Work}
use Rattle.actx_frame_items.specs.Stack.{act, kept, control_work}

-- what a body wants where nothing is left to do with a completion
abbrev pub ended_of : Completion → Want
ended_of (Normal v) = wants.Return values.Undefined
ended_of (Break n) = wants.Return values.Undefined
ended_of (Continue n) = wants.Return values.Undefined
ended_of (Return v) = wants.Return v
ended_of (Throw v) = wants.Throw v

-- what an item does with a completion, by what is done next
unfoldable pub completed : Item → Completion → Work
completed i c = λ k. act i k c

-- what is wanted after further answers, by what is wanted now and what is kept
unfoldable pub rest_of : Want → List Value → Next' → Run
rest_of (wants.Ask q) list k = asks q list k
rest_of (wants.Return v) list k = λ more. Returns v
rest_of (wants.Throw v) list k = λ more. Throws v

-- what a piece of work leads to, with what is kept then
unfoldable pub piece_run : Piece → Next' → Run
piece_run (pieces.On c) k = control_work c k
piece_run (pieces.Out w) k = rest_of w.want w.list.items k

unfoldable pub Works : Result Piece AllocError → List Item → Run → Type 0
Works (Ok t) stack r = piece_run t (kept stack) ≡ r
Works (Err e) stack r = Unit {0}

-- what all the work up to the next request leads to
unfoldable pub Settles : Result Wanted AllocError → List Item → Run → Type 0
Settles (Ok w) stack r = rest_of w.want w.list.items (kept stack) ≡ r
Settles (Err e) stack r = Unit {0}
