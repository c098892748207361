-- The structs of a tree, made of their fields.
use Rattle.std.specs.Prelude.{Bool, List, Option}
use Rattle.actx_text.specs.declared.units.Units.{Units}
use Rattle.actx_tree.specs.declared.operator.BinaryOp.{BinaryOp}
use Rattle.actx_tree.specs.declared.function.Flow.{Flow}
use Rattle.actx_tree.specs.declared.function.Unread.{Unread}
use Rattle.actx_tree.specs.declared.expr.Expr.{Expr}
use Rattle.actx_tree.specs.declared.expr.Key.{Key}
use Rattle.actx_tree.specs.declared.pattern.Target.{Target}
use Rattle.actx_tree.specs.declared.stmt.Stmt.{Stmt}
use Rattle.actx_tree.specs.declared.expr.Piece.{Piece, roll-Piece}
use Rattle.actx_tree.specs.declared.expr.Operand.{Operand, roll-Operand}
use Rattle.actx_tree.specs.declared.function.Function.{Function, roll-Function}
use Rattle.actx_tree.specs.declared.function.Method.{Method, roll-Method}
use Rattle.actx_tree.specs.declared.function.Class.{Class, roll-Class}
use Rattle.actx_tree.specs.declared.function.Member.{Member, roll-Member}
use Rattle.actx_tree.specs.declared.pattern.Elem.{Elem, roll-Elem}
use Rattle.actx_tree.specs.declared.pattern.Params.{Params, roll-Params}
use Rattle.actx_tree.specs.declared.stmt.Catch.{Catch, roll-Catch}

abbrev pub piece_of : Expr → Units → Piece
piece_of value after = roll-Piece (record { value = value; after = after })

abbrev pub operand_of : BinaryOp → Expr → Operand
operand_of op right = roll-Operand (record { op = op; right = right })

abbrev pub function_of : Flow → Option Units → Params → Unread → Function
function_of flow name params body = roll-Function (record { flow = flow; name = name; params = params; body = body })

abbrev pub method_of : Flow → Key → Params → Unread → Method
method_of flow k params body = roll-Method (record { flow = flow; key = k; params = params; body = body })

abbrev pub class_of : Option Units → Option Expr → List Member → Class
class_of name parent members = roll-Class (record { name = name; parent = parent; members = members })

abbrev pub member_of : Bool → Method → Member
member_of is_static m = roll-Member (record { is_static = is_static; method = m })

abbrev pub elem_of : Target → Option Expr → Elem
elem_of target default = roll-Elem (record { target = target; default = default })

abbrev pub params_of : List Elem → Option Target → Params
params_of elems rest = roll-Params (record { elems = elems; rest = rest })

abbrev pub catch_of : Option Target → List Stmt → Catch
catch_of target block = roll-Catch (record { target = target; block = block })
