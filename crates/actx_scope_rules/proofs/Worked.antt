-- The early errors, and the uses of names, of the files worked by hand.
use Rattle.std.proofs.Common.{◌≡◌, refl, true, false, [], ◌∷◌}
use Rattle.actx_tree.proofs.BodyEquations.{function_bodies-Function, params_bodies-Params, elem_bodies-Elem, target_bodies-Name}
use Rattle.actx_tree.proofs.StmtBodyEquations.{stmt_bodies-Function}
use Rattle.actx_scope_rules.specs.declared.early.EarlyKind.TheVariants as kind
use Rattle.actx_scope_rules.specs.Words.{same_units, among}
use Rattle.actx_scope_rules.specs.Scopes.{found_from, last_slot}
use Rattle.actx_scope_rules.specs.Conditions.{has_bad_key}
use Rattle.actx_scope_rules.specs.Early.{early_errors, name_uses, errors_from, uses_from, tree_nodes, spread, nodes_in}
use Rattle.actx_scope_rules.specs.Examples as example
use Rattle.actx_scope_rules.proofs.PartEquations.{expr_part-Number, expr_part-Unary, elem_part-Elem, target_part-Name, expr_part-Name, expr_part-Assign, function_part-Function, params_part-Params, expr_part-Brackets, expr_part-Object, entry_part-Pair, entry_part-Shorthand, key_part-Word, class_part-Class, member_part_of-Member, method_part-Method}
use Rattle.actx_scope_rules.proofs.StatementEquations.{statement-Break, statement-While, statement-Block, statement-Return, statement-Expr, statement-Let, statement-Function, statement-Class}

pub lone_break : early_errors example.lone_break ≡ record { kind = kind.BadBreak; at = 0 } ∷ []
unfolding errors_from tree_nodes spread nodes_in same_units among found_from last_slot has_bad_key
lone_break = rw (statement-Break) refl

pub in_a_loop : early_errors example.break_in_a_loop ≡ []
unfolding errors_from tree_nodes spread nodes_in same_units among found_from last_slot has_bad_key
in_a_loop = rw (statement-While, statement-Block, statement-Break, expr_part-Number) refl

pub lone_return : early_errors example.lone_return ≡ record { kind = kind.BadReturn; at = 0 } ∷ []
unfolding errors_from tree_nodes spread nodes_in same_units among found_from last_slot has_bad_key
lone_return = rw (statement-Return) refl

pub lone_await : early_errors example.lone_await ≡ record { kind = kind.BadAwait; at = 1 } ∷ []
unfolding errors_from tree_nodes spread nodes_in same_units among found_from last_slot has_bad_key
lone_await = rw (statement-Expr, expr_part-Unary, expr_part-Number) refl

pub declared_twice : early_errors example.declared_twice ≡ record { kind = kind.Redeclared; at = 1 } ∷ []
unfolding errors_from tree_nodes spread nodes_in same_units among found_from last_slot has_bad_key
declared_twice = rw (statement-Let, elem_part-Elem, target_part-Name) refl

pub in_a_block : early_errors example.declared_in_a_block ≡ []
unfolding errors_from tree_nodes spread nodes_in same_units among found_from last_slot has_bad_key
in_a_block = rw (statement-Let, statement-Block, statement-Let, elem_part-Elem, target_part-Name) refl

pub unknown : early_errors example.unknown_name ≡ record { kind = kind.NotDeclared; at = 1 } ∷ []
unfolding errors_from tree_nodes spread nodes_in same_units among found_from last_slot has_bad_key
unknown = rw (statement-Expr, expr_part-Name) refl

pub shorthand : early_errors example.unknown_shorthand ≡ record { kind = kind.NotDeclared; at = 3 } ∷ []
unfolding errors_from tree_nodes spread nodes_in same_units among found_from last_slot has_bad_key
shorthand = rw (statement-Expr, expr_part-Brackets, expr_part-Object, entry_part-Shorthand) refl

pub global : early_errors example.global_name ≡ []
unfolding errors_from tree_nodes spread nodes_in same_units among found_from last_slot has_bad_key
global = rw (statement-Expr, expr_part-Name) refl

pub global_use : name_uses example.global_name ≡ record { at = 1; name = record { hops = 0; slot = 1; is_global = true; is_fixed = true } } ∷ []
unfolding uses_from tree_nodes spread nodes_in same_units among found_from last_slot has_bad_key
global_use = rw (statement-Expr, expr_part-Name) refl

pub const_assigned : early_errors example.const_assigned ≡ record { kind = kind.ConstAssigned; at = 4 } ∷ []
unfolding errors_from tree_nodes spread nodes_in same_units among found_from last_slot has_bad_key
const_assigned = rw (statement-Let, statement-Expr, elem_part-Elem, target_part-Name, expr_part-Assign, expr_part-Name, expr_part-Number) refl

pub parameter : early_errors example.parameter_declared ≡ record { kind = kind.Redeclared; at = 1 } ∷ []
unfolding errors_from tree_nodes spread nodes_in same_units among found_from last_slot has_bad_key
parameter = rw (statement-Function, function_part-Function, params_part-Params, elem_part-Elem, target_part-Name, stmt_bodies-Function, function_bodies-Function, params_bodies-Params, elem_bodies-Elem, target_bodies-Name, statement-Let, statement-Return, expr_part-Name, elem_part-Elem, target_part-Name) refl

pub parameter_use : name_uses example.parameter_declared ≡ record { at = 3; name = record { hops = 0; slot = 0; is_global = false; is_fixed = false } } ∷ []
unfolding uses_from tree_nodes spread nodes_in same_units among found_from last_slot has_bad_key
parameter_use = rw (statement-Function, function_part-Function, params_part-Params, elem_part-Elem, target_part-Name, stmt_bodies-Function, function_bodies-Function, params_bodies-Params, elem_bodies-Elem, target_bodies-Name, statement-Let, statement-Return, expr_part-Name, elem_part-Elem, target_part-Name) refl

pub deleted : early_errors example.name_deleted ≡ record { kind = kind.BadDelete; at = 1 } ∷ record { kind = kind.NotDeclared; at = 2 } ∷ []
unfolding errors_from tree_nodes spread nodes_in same_units among found_from last_slot has_bad_key
deleted = rw (statement-Expr, expr_part-Unary, expr_part-Name) refl

pub proto : early_errors example.proto_key ≡ record { kind = kind.BadKey; at = 2 } ∷ []
unfolding errors_from tree_nodes spread nodes_in same_units among found_from last_slot has_bad_key
proto = rw (statement-Expr, expr_part-Brackets, expr_part-Object, entry_part-Pair, key_part-Word, expr_part-Number) refl

pub constructors : early_errors example.two_constructors ≡ record { kind = kind.TwoConstructors; at = 2 } ∷ []
unfolding errors_from tree_nodes spread nodes_in same_units among found_from last_slot has_bad_key
constructors = rw (statement-Class, class_part-Class, member_part_of-Member, method_part-Method, key_part-Word, params_part-Params) refl
