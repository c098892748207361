-- What the files worked by hand become.
use Rattle.std.proofs.Common.{refl}
use Rattle.actx_tree.proofs.BodyEquations.{function_bodies-Function, params_bodies-Params, elem_bodies-Elem, target_bodies-Name, class_bodies-Class, member_bodies-Member, method_bodies-Method, key_bodies-Word, expr_bodies-Name, expr_bodies-Brackets, expr_bodies-Function, expr_bodies-Left, suffix_bodies-Call}
use Rattle.actx_tree.proofs.StmtBodyEquations.{stmt_bodies-Function, stmt_bodies-Class, stmt_bodies-Expr}
use Rattle.actx_scope_rules.specs.Words.{same_units, among}
use Rattle.actx_scope_rules.specs.Scopes.{found_from, last_slot}
use Rattle.actx_core.specs.Making.{all}
use Rattle.actx_core.specs.Patterns.{elements_from, properties_from, declared_from, parameters_from}
use Rattle.actx_core.specs.Statements.{in_order}
use Rattle.actx_core.specs.Lowering.{items_of, tree_made}
use Rattle.actx_core.specs.Examples as example
use Rattle.actx_core.proofs.ExprEquations.{expr_equations, expression-Number, expression-Template, expression-Name, expression-Brackets, expression-Object, expression-Left, expression-Unary, expression-Arrow, expression-Text, expression-SuperCall, expression-SuperMember, class_of-Class, member_of-Member, method_of-Method, piece_of-Piece, target_of-Name, suffix_of-Member, suffix_of-Call, argument_of-One, entry_of-Pair, entry_of-Shorthand, key_of-Word, key_of-Computed, params_of-Params}
use Rattle.actx_core.proofs.StmtEquations.{stmt_equations, statement-Class, statement-If, statement-Empty, statement-While, statement-Continue, statement-Expr, statement-Try, statement-Throw, handler_of-Catch}

pub empty : example.Empty
unfolding all elements_from properties_from declared_from parameters_from in_order items_of tree_made same_units among found_from last_slot
empty = refl

pub name_declared : example.NameDeclared
unfolding all elements_from properties_from declared_from parameters_from in_order items_of tree_made same_units among found_from last_slot
name_declared = simp (expr_equations, stmt_equations)

pub names_in_a_block : example.NamesInABlock
unfolding all elements_from properties_from declared_from parameters_from in_order items_of tree_made same_units among found_from last_slot
names_in_a_block = simp (expr_equations, stmt_equations)

pub this_of_a_file : example.ThisOfAFile
unfolding all elements_from properties_from declared_from parameters_from in_order items_of tree_made same_units among found_from last_slot
this_of_a_file = simp (expr_equations, stmt_equations)

pub pattern_declared : example.PatternDeclared
unfolding all elements_from properties_from declared_from parameters_from in_order items_of tree_made same_units among found_from last_slot
pattern_declared = simp (expr_equations, stmt_equations)

pub texts_once : example.TextsOnce
unfolding all elements_from properties_from declared_from parameters_from in_order items_of tree_made same_units among found_from last_slot
texts_once = simp (expr_equations, stmt_equations)

pub template_of_two : example.TemplateOfTwo
unfolding all elements_from properties_from declared_from parameters_from in_order items_of tree_made same_units among found_from last_slot
template_of_two = rw (statement-Expr, expression-Template, piece_of-Piece, piece_of-Piece, expression-Number)

pub member_changed : example.MemberChanged
unfolding all elements_from properties_from declared_from parameters_from in_order items_of tree_made same_units among found_from last_slot
member_changed = simp (expr_equations, stmt_equations)

pub chain_of_suffixes : example.ChainOfSuffixes
unfolding all elements_from properties_from declared_from parameters_from in_order items_of tree_made same_units among found_from last_slot
chain_of_suffixes = rw (statement-Expr, expression-Left, expression-Name, suffix_of-Member, suffix_of-Member, suffix_of-Call, argument_of-One, expression-Number, statement-Expr, expression-Unary, expression-Left, expression-Name, suffix_of-Member, suffix_of-Member)

pub operators_of_kinds : example.OperatorsOfKinds
unfolding all elements_from properties_from declared_from parameters_from in_order items_of tree_made same_units among found_from last_slot
operators_of_kinds = simp (expr_equations, stmt_equations)

pub for_with_let : example.ForWithLet
unfolding all elements_from properties_from declared_from parameters_from in_order items_of tree_made same_units among found_from last_slot
for_with_let = simp (expr_equations, stmt_equations)

pub for_without : example.ForWithout
unfolding all elements_from properties_from declared_from parameters_from in_order items_of tree_made same_units among found_from last_slot
for_without = simp (expr_equations, stmt_equations)

pub for_of_turns : example.ForOfTurns
unfolding all elements_from properties_from declared_from parameters_from in_order items_of tree_made same_units among found_from last_slot
for_of_turns = simp (expr_equations, stmt_equations)

pub try_with_all : example.TryWithAll
unfolding all elements_from properties_from declared_from parameters_from in_order items_of tree_made same_units among found_from last_slot
try_with_all = rw (statement-Try, statement-Throw, handler_of-Catch, target_of-Name, statement-Expr, expression-Number, expression-Name)

pub if_else : example.IfElse
unfolding all elements_from properties_from declared_from parameters_from in_order items_of tree_made same_units among found_from last_slot
if_else = rw (statement-If, expression-Number, statement-Empty, statement-While, expression-Number, statement-Continue)

pub arrow_named : example.ArrowNamed
unfolding all elements_from properties_from declared_from parameters_from in_order items_of tree_made same_units among found_from last_slot
arrow_named = simp (expr_equations, stmt_equations)

pub function_declared : example.FunctionDeclared
unfolding all elements_from properties_from declared_from parameters_from in_order items_of tree_made same_units among found_from last_slot
function_declared = simp (expr_equations, stmt_equations, function_bodies-Function, params_bodies-Params, elem_bodies-Elem, target_bodies-Name, class_bodies-Class, member_bodies-Member, method_bodies-Method, key_bodies-Word, expr_bodies-Name, expr_bodies-Brackets, expr_bodies-Function, expr_bodies-Left, suffix_bodies-Call, stmt_bodies-Function, stmt_bodies-Class, stmt_bodies-Expr)

pub generator_begins : example.GeneratorBegins
unfolding all elements_from properties_from declared_from parameters_from in_order items_of tree_made same_units among found_from last_slot
generator_begins = simp (expr_equations, stmt_equations, function_bodies-Function, params_bodies-Params, elem_bodies-Elem, target_bodies-Name, class_bodies-Class, member_bodies-Member, method_bodies-Method, key_bodies-Word, expr_bodies-Name, expr_bodies-Brackets, expr_bodies-Function, expr_bodies-Left, suffix_bodies-Call, stmt_bodies-Function, stmt_bodies-Class, stmt_bodies-Expr)

pub object_of_entries : example.ObjectOfEntries
unfolding all elements_from properties_from declared_from parameters_from in_order items_of tree_made same_units among found_from last_slot
object_of_entries = rw (statement-Expr, expression-Brackets, expression-Object, entry_of-Pair, entry_of-Pair, entry_of-Shorthand, key_of-Word, key_of-Computed, expression-Arrow, params_of-Params, expression-Number, expression-Text)

pub class_without_constructor : example.ClassWithoutConstructor
unfolding all elements_from properties_from declared_from parameters_from in_order items_of tree_made same_units among found_from last_slot
class_without_constructor = simp (expr_equations, stmt_equations)

pub class_with_constructor : example.ClassWithConstructor
unfolding all elements_from properties_from declared_from parameters_from in_order items_of tree_made same_units among found_from last_slot
class_with_constructor = simp (statement-Class, class_of-Class, member_of-Member, method_of-Method, key_of-Word, params_of-Params, statement-Expr, expression-Name, expression-Brackets, expression-Arrow, expression-SuperCall, stmt_bodies-Class, class_bodies-Class, member_bodies-Member, method_bodies-Method, key_bodies-Word, params_bodies-Params, expr_bodies-Name)

pub class_with_static : example.ClassWithStatic
unfolding all elements_from properties_from declared_from parameters_from in_order items_of tree_made same_units among found_from last_slot
class_with_static = simp (statement-Class, class_of-Class, member_of-Member, method_of-Method, key_of-Word, params_of-Params, statement-Expr, expression-Left, expression-SuperMember, suffix_of-Call, stmt_bodies-Class, class_bodies-Class, member_bodies-Member, method_bodies-Method, key_bodies-Word, params_bodies-Params)

pub class_expression : example.ClassExpression
unfolding all elements_from properties_from declared_from parameters_from in_order items_of tree_made same_units among found_from last_slot
class_expression = simp (expr_equations, stmt_equations)

pub bundle_behind : example.BundleBehind
unfolding all elements_from properties_from declared_from parameters_from in_order items_of tree_made same_units among found_from last_slot
bundle_behind = simp (expr_equations, stmt_equations, function_bodies-Function, params_bodies-Params, elem_bodies-Elem, target_bodies-Name, class_bodies-Class, member_bodies-Member, method_bodies-Method, key_bodies-Word, expr_bodies-Name, expr_bodies-Brackets, expr_bodies-Function, expr_bodies-Left, suffix_bodies-Call, stmt_bodies-Function, stmt_bodies-Class, stmt_bodies-Expr)
