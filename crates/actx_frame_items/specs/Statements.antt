-- What the items of statements, scopes and classes do with a value.
use Rattle.std.specs.Prelude.{drop}
use Rattle.actx_value.specs.declared.value.Value.{Value}
use Rattle.actx_want.specs.declared.completion.Completion.TheVariants.{Normal}
use Rattle.actx_want.specs.Run.{before}
use Rattle.actx_want.specs.Functions.{yielding, awaiting}
use Rattle.actx_want.specs.Statements.{sequenced, choosing, initialising, declaring, declared_of, entered, returning, throwing}
use Rattle.actx_want.specs.Classes.{method_made, members_of, prototype_got, class_made, extending}
use Rattle.actx_want.specs.Tries.{catch_entered, settling}
use Rattle.actx_want.specs.Bodies.{eval, eval_pattern}
use Rattle.actx_frame_items.specs.declared.items.statement.Declarations.{Declarations}
use Rattle.actx_frame_items.specs.declared.items.statement.StatementStep.{StatementStep}
use Rattle.actx_frame_items.specs.declared.items.statement.StatementStep.TheVariants as steps
use Rattle.actx_frame_items.specs.declared.items.statement.ClassMembers.{ClassMembers}
use Rattle.actx_frame_items.specs.declared.items.statement.ClassStep.{ClassStep}
use Rattle.actx_frame_items.specs.declared.items.statement.ClassStep.TheVariants as classes
use Rattle.actx_frame_items.specs.Work.{Work, forms}

-- the declarations from the present one on, and the form
unfoldable pub declarations_left : Declarations → Work
declarations_left d = λ k. declared_of (drop d.at d.functions.value.items) d.place (eval d.body.value d.place k) k

unfoldable pub statement_work : StatementStep → Value → Work
statement_work (steps.Sequenced es i p) v = λ k. sequenced (forms (drop i es.value.items)) v p k
statement_work (steps.Choosing a b p) v = λ k. choosing (eval a.value) (eval b.value) p k (Normal v)
statement_work (steps.Initialising slot p) v = λ k. initialising slot p k (Normal v)
statement_work (steps.Entered fs body p) v = λ k. entered fs.value.items (eval body.value) p k (Normal v)
statement_work (steps.Declaring slot d) v = λ k. declaring slot d.place (declarations_left d k) k (Normal v)
statement_work (steps.DeclaredOne d) v = declarations_left d
statement_work steps.Returning v = λ k. returning k (Normal v)
statement_work steps.Throwing v = λ k. throwing k (Normal v)
statement_work steps.Yielding v = λ k. yielding k (Normal v)
statement_work steps.Awaiting v = λ k. awaiting k (Normal v)
statement_work (steps.Settling c) v = λ k. settling c k (Normal v)
statement_work (steps.CatchEntered x b thrown p) v = λ k. catch_entered (eval_pattern x.value) (eval b.value) thrown p k (Normal v)
statement_work (steps.CatchBlock b p) v = λ k. before (eval b.value p k) k (Normal v)

-- the members of a class from the present one on
unfoldable pub members_left : ClassMembers → Work
members_left m = λ k. members_of (drop m.at m.list.value.items) m.class m.prototype m.place k

unfoldable pub class_work : ClassStep → Value → Work
class_work (classes.Extending body key ms p) v = λ k. extending body key ms.value.items p k (Normal v)
class_work (classes.Made key ms p) v = λ k. class_made key ms.value.items p k (Normal v)
class_work (classes.PrototypeGot ms f p) v = λ k. prototype_got ms.value.items f p k (Normal v)
class_work (classes.MethodMade home key) v = λ k. method_made home key k (Normal v)
class_work (classes.MethodDefined m) v = members_left m
