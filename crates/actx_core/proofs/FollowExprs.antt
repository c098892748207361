-- Expressions, patterns, functions and classes: where names are resolved by uses, they follow what they are by scopes.
use Rattle.std.proofs.Common.{◌≡◌, refl, sym, subst, Bool, List, [], ◌∷◌, map, Option, Some, None}
use Rattle.std.specs.Fmt.{signed_decimal}
use Rattle.actx_text.specs.declared.units.Units.{Units}
use Rattle.actx_tree.specs.declared.expr.Argument.{Argument, Argument-F}
use Rattle.actx_tree.specs.declared.expr.Entry.{Entry, Entry-F}
use Rattle.actx_tree.specs.declared.expr.Expr.{Expr, Expr-F}
use Rattle.actx_tree.specs.declared.expr.Key.{Key, Key-F}
use Rattle.actx_tree.specs.declared.expr.Suffix.{Suffix-F}
use Rattle.actx_tree.specs.declared.pattern.Prop.{Prop, Prop-F}
use Rattle.actx_tree.specs.declared.pattern.Target.{Target, Target-F}
use Rattle.actx_tree.specs.declared.expr.Piece.{Piece}
use Rattle.actx_tree.specs.declared.function.Class.{Class}
use Rattle.actx_tree.specs.declared.function.Function.{Function}
use Rattle.actx_tree.specs.declared.function.Member.{Member}
use Rattle.actx_tree.specs.declared.function.Method.{Method}
use Rattle.actx_tree.specs.declared.pattern.Elem.{Elem}
use Rattle.actx_tree.specs.declared.expr.Argument.TheFolds.{ind-Expr, ind-Function, ind-Class, ind-Target, ind-Elem, fold-roll-Argument, fold-roll-Entry, fold-roll-Expr, fold-roll-Key, fold-roll-Suffix, fold-roll-Prop, fold-roll-Target, fold-roll-Operand, fold-roll-Piece, fold-roll-Class, fold-roll-Function, fold-roll-Member, fold-roll-Method, fold-roll-Elem, fold-roll-Params}
use Rattle.actx_tree.specs.declared.expr.Argument.TheViews.{roll-Argument, roll-Entry, roll-Expr, roll-Key, roll-Suffix, roll-Prop, roll-Target, roll-Operand, roll-Piece, roll-Class, roll-Function, roll-Member, roll-Method, roll-Elem, roll-Params}
use Rattle.actx_value.specs.declared.value.Value.TheVariants as values
use Rattle.actx_core.specs.declared.core_form.Core.TheVariants as forms
use Rattle.actx_core.specs.declared.core_parts.CoreArgument.{CoreArgument}
use Rattle.actx_core.specs.declared.core_parts.CoreArgument.TheVariants as argument
use Rattle.actx_core.specs.declared.core_parts.CoreChange.TheVariants as change
use Rattle.actx_core.specs.declared.core_parts.CoreEntry.{CoreEntry}
use Rattle.actx_core.specs.declared.core_parts.CoreEntry.TheVariants as entry
use Rattle.actx_core.specs.declared.core_parts.CoreKey.TheVariants as key
use Rattle.actx_core.specs.declared.core_parts.CorePiece.{CorePiece}
use Rattle.actx_core.specs.declared.core_parts.CorePiece.TheVariants as piece
use Rattle.actx_core.specs.declared.core_parts.CoreSuffix.TheVariants as suffix
use Rattle.actx_core.specs.Making.{Making, undefined}
use Rattle.actx_core.specs.Names.{by_scopes, by_uses}
use Rattle.actx_core.specs.Operators.{Operand as MadeOperand}
use Rattle.actx_core.specs.Functions.{Inside, Params as MadeParams, Function as MadeFunction, Key as MadeKey, Method as MadeMethod, Member as MadeMember, Class as MadeClass}
use Rattle.actx_core.specs.Patterns.{Target as MadeTarget, Elem as MadeElem, Prop as MadeProp}
use Rattle.actx_core.specs.Expressions.{Suffixed, Expression, form, arrow_flow, argument_of, entry_of, expression, key_of, suffix_of, prop_of, target_of, operand_of, piece_of, class_of, function_of, member_of, method_of, elem_of, params_of, argument_step, entry_step, expr_step, key_step, suffix_step, prop_step, target_step, operand_step, piece_step, class_step, function_step, member_step, method_step, elem_step, params_step}
use Rattle.actx_core.specs.Laws.{Follows}
use Rattle.actx_core.proofs.Follow.{Lists, ends, more, absent, present, just_follows, of1_follows, of2_follows, of3_follows, all_follows, text_follows, body_follows}
use Rattle.actx_core.proofs.FollowParts.{RSuffixed, RExpression, ROperand, RParams, RFunction, RKey, RMethod, RMember, RClass, RTarget, RElem, RProp, RInside, lists_map, chain_follows, arrow_follows, function_made_follows, method_made_follows, class_made_follows, name_target_follows, object_target_follows, array_target_follows, elem_made_follows, shorthand_follows, pair_follows, params_follow, plain_follows, naming_follows, name_form_follows, name_made_follows, this_follows, hops_follow, chained_follows, left_follows, unary_follows, piece_after_follows, returned_follows, arguments_follow, assigned_follows, super_made_follows, written_follows, member_suffix_follows, named_by_key, made_by_key, member_follows}
use Rattle.actx_core.proofs.FollowLayers.{ArgumentFollows, ArgumentLayer, EntryFollows, EntryLayer, ExprFollows, ExprWith, ExprLayer, KeyFollows, KeyLayer, SuffixFollows, SuffixLayer, PropFollows, PropLayer, TargetFollows, TargetWith, TargetLayer, OperandFollows, OperandLayer, PieceFollows, PieceLayer, ClassFollows, ClassLayer, FunctionFollows, FunctionLayer, MemberFollows, MemberWith, MemberLayer, MethodFollows, MethodLayer, ElemFollows, ElemWith, ElemLayer, ParamsFollows, ParamsLayer, bare_argument, made_argument, used_argument, bare_entry, made_entry, used_entry, bare_expr, made_expr, used_expr, bare_key, made_key, used_key, bare_suffix, made_suffix, used_suffix, bare_prop, made_prop, used_prop, bare_target, made_target, used_target, bare_operand, made_operand, used_operand, bare_piece, made_piece, used_piece, bare_class, made_class, used_class, bare_function, made_function, used_function, bare_member, made_member, used_member, bare_method, made_method, used_method, bare_elem, made_elem, used_elem, bare_params, made_params, used_params}

-- parts that correspond, in a list
with_lists : {T A : Type 0} (R : A → A → Type 0) (f g : T → A) (es : List ((x : T) × R (f x) (g x))) → Lists R (map f (map (λ e. e.0) es)) (map g (map (λ e. e.0) es))
with_lists R f g [] = ends
with_lists R f g (e ∷ es) = more e.1 (with_lists R f g es)

module _ (i j : Inside) (inside : RInside i j) where
  -- ---- each kind of part

  class_at : (name : Option Units) (parent : Option (ExprWith i j)) (members : List (MemberWith i j))
      → RClass (class_step by_scopes i ((made_class i j) ((bare_class i j) (record { name = name; parent = parent; members = members })))) (class_step by_uses j ((used_class i j) ((bare_class i j) (record { name = name; parent = parent; members = members }))))
  class_at name None members = class_made_follows name absent (with_lists RMember _ _ members)
  class_at name (Some x) members = class_made_follows name (present (x.1.named [])) (with_lists RMember _ _ members)

  elem_at : (target : (TargetWith i j)) (default : Option (ExprWith i j))
      → RElem (elem_step by_scopes i ((made_elem i j) ((bare_elem i j) (record { target = target; default = default })))) (elem_step by_uses j ((used_elem i j) ((bare_elem i j) (record { target = target; default = default }))))
  elem_at target None = elem_made_follows target.1 absent
  elem_at target (Some x) = elem_made_follows target.1 (present x.1.named)

  params_at : (elems : List (ElemWith i j)) (rest : Option (TargetWith i j))
      → RParams (params_step by_scopes i ((made_params i j) ((bare_params i j) (record { elems = elems; rest = rest })))) (params_step by_uses j ((used_params i j) ((bare_params i j) (record { elems = elems; rest = rest }))))
  params_at elems None = params_follow (with_lists RElem _ _ elems) absent
  params_at elems (Some t) = params_follow (with_lists RElem _ _ elems) (present t.1)

  expr_step_follows : (y : (ExprLayer i j)) → RExpression (expr_step by_scopes i ((made_expr i j) ((bare_expr i j) y))) (expr_step by_uses j ((used_expr i j) ((bare_expr i j) y)))
  expr_step_follows (Expr-F.Expr::Name name) = name_made_follows name
  expr_step_follows (Expr-F.Expr::Number value) = plain_follows (just_follows _)
  expr_step_follows (Expr-F.Expr::Text text) = plain_follows (of1_follows forms.Literal (text_follows text))
  expr_step_follows (Expr-F.Bool value) = plain_follows (just_follows _)
  expr_step_follows Expr-F.Null = plain_follows (just_follows _)
  expr_step_follows Expr-F.This = plain_follows this_follows
  expr_step_follows (Expr-F.Template text pieces) = plain_follows (of2_follows forms.Template (text_follows text) (all_follows (with_lists Follows _ _ pieces)))
  expr_step_follows (Expr-F.Brackets x) = plain_follows (x.1.named [])
  expr_step_follows (Expr-F.Expr::Array arguments) = plain_follows (of1_follows forms.Array (all_follows (with_lists Follows _ _ arguments)))
  expr_step_follows (Expr-F.Expr::Object entries) = plain_follows (of1_follows forms.Object (all_follows (with_lists Follows _ _ entries)))
  expr_step_follows (Expr-F.SuperCall arguments) = plain_follows (of2_follows forms.SuperCall hops_follow (all_follows (with_lists Follows _ _ arguments)))
  expr_step_follows (Expr-F.SuperMember name) = super_made_follows name
  expr_step_follows (Expr-F.Function f) = naming_follows (λ name. of1_follows forms.Function (f.1.expression name))
  expr_step_follows (Expr-F.Class c) = naming_follows c.1.expression
  expr_step_follows (Expr-F.New x suffixes None) = plain_follows (of2_follows forms.New (chained_follows x.1 (with_lists RSuffixed _ _ suffixes)) (arguments_follow absent))
  expr_step_follows (Expr-F.New x suffixes (Some arguments)) = plain_follows (of2_follows forms.New (chained_follows x.1 (with_lists RSuffixed _ _ suffixes)) (arguments_follow (present (with_lists Follows _ _ arguments))))
  expr_step_follows (Expr-F.Left x suffixes) = left_follows x.1 (with_lists RSuffixed _ _ suffixes)
  expr_step_follows (Expr-F.StepBefore op x) = plain_follows (x.1.change _ _ (just_follows (change.StepBefore op)))
  expr_step_follows (Expr-F.StepAfter x op) = plain_follows (x.1.change _ _ (just_follows (change.StepAfter op)))
  expr_step_follows (Expr-F.Unary op x) = plain_follows (unary_follows op x.1)
  expr_step_follows (Expr-F.Chain x operands) = plain_follows (chain_follows _ _ (x.1.named []) (with_lists ROperand _ _ operands))
  expr_step_follows (Expr-F.Conditional test chosen other) = plain_follows (of3_follows forms.If (test.1.named []) (chosen.1.named []) (other.1.named []))
  expr_step_follows (Expr-F.Assign place op x) = plain_follows (place.1.change _ _ (assigned_follows op (x.1.named [])))
  expr_step_follows (Expr-F.Yield None) = plain_follows (of1_follows forms.Yield (just_follows undefined))
  expr_step_follows (Expr-F.Yield (Some x)) = plain_follows (of1_follows forms.Yield (x.1.named []))
  expr_step_follows (Expr-F.Arrow is_async params x) = naming_follows (λ name. of1_follows forms.Function (body_follows (arrow_follows (arrow_flow is_async) name _ _ _ _ params.1 (returned_follows x.1))))
  expr_step_follows (Expr-F.ArrowBlock is_async params body) = naming_follows (λ name. of1_follows forms.Function (body_follows (arrow_follows (arrow_flow is_async) name _ _ _ _ params.1 (inside body))))
  expr_step_follows (Expr-F.Comma x xs) = plain_follows (of1_follows forms.Sequence (all_follows (more (x.1.named []) (lists_map form form (λ a b h. h.named []) (with_lists RExpression _ _ xs)))))

  argument_step_follows : (y : (ArgumentLayer i j)) → Follows (argument_step by_scopes i ((made_argument i j) ((bare_argument i j) y))) (argument_step by_uses j ((used_argument i j) ((bare_argument i j) y)))
  argument_step_follows (Argument-F.One x) = of1_follows argument.One (x.1.named [])
  argument_step_follows (Argument-F.Argument::Spread x) = of1_follows argument.Spread (x.1.named [])

  entry_step_follows : (y : (EntryLayer i j)) → Follows (entry_step by_scopes i ((made_entry i j) ((bare_entry i j) y))) (entry_step by_uses j ((used_entry i j) ((bare_entry i j) y)))
  entry_step_follows (Entry-F.Entry::Spread x) = of1_follows entry.Copied (x.1.named [])
  entry_step_follows (Entry-F.Entry::Shorthand name) = of2_follows (λ k x. entry.Pair (key.Plain k) x) (text_follows name) (name_form_follows name)
  entry_step_follows (Entry-F.Entry::Pair k x) = of2_follows entry.Pair k.1.key (named_by_key x.1 k.1)
  entry_step_follows (Entry-F.Method m) = of2_follows entry.Method m.1.key.key (made_by_key m.1)

  key_step_follows : (y : (KeyLayer i j)) → RKey (key_step by_scopes i ((made_key i j) ((bare_key i j) y))) (key_step by_uses j ((used_key i j) ((bare_key i j) y)))
  key_step_follows (Key-F.Word name) = written_follows name
  key_step_follows (Key-F.Key::Text text) = written_follows text
  key_step_follows (Key-F.Key::Number value) = written_follows (signed_decimal value)
  key_step_follows (Key-F.Computed x) = record { key = of1_follows key.Computed (x.1.named []); value = of1_follows (λ _. values.Undefined) (x.1.named []); word = refl }

  suffix_step_follows : (y : (SuffixLayer i j)) → RSuffixed (suffix_step by_scopes i ((made_suffix i j) ((bare_suffix i j) y))) (suffix_step by_uses j ((used_suffix i j) ((bare_suffix i j) y)))
  suffix_step_follows (Suffix-F.Member is_optional name) = member_suffix_follows is_optional (of1_follows key.Plain (text_follows name))
  suffix_step_follows (Suffix-F.Index is_optional x) = member_suffix_follows is_optional (of1_follows key.Computed (x.1.named []))
  suffix_step_follows (Suffix-F.Call is_optional arguments) = record {
    form = of1_follows (suffix.Call is_optional) (all_follows (with_lists Follows _ _ arguments));
    key = of1_follows (λ _. key.Plain values.Undefined) (all_follows (with_lists Follows _ _ arguments));
    optional = refl;
    call = refl;
  }

  operand_step_follows : (y : (OperandLayer i j)) → ROperand (operand_step by_scopes i ((made_operand i j) ((bare_operand i j) y))) (operand_step by_uses j ((used_operand i j) ((bare_operand i j) y)))
  operand_step_follows y = record { op = refl; right = y.right.1.named [] }

  piece_step_follows : (y : (PieceLayer i j)) → Follows (piece_step by_scopes i ((made_piece i j) ((bare_piece i j) y))) (piece_step by_uses j ((used_piece i j) ((bare_piece i j) y)))
  piece_step_follows y = of2_follows piece.Piece (y.value.1.named []) (piece_after_follows y.after)

  function_step_follows : (y : (FunctionLayer i j)) → RFunction (function_step by_scopes i ((made_function i j) ((bare_function i j) y))) (function_step by_uses j ((used_function i j) ((bare_function i j) y)))
  function_step_follows y = function_made_follows inside y.flow y.name y.params.1 y.body

  method_step_follows : (y : (MethodLayer i j)) → RMethod (method_step by_scopes i ((made_method i j) ((bare_method i j) y))) (method_step by_uses j ((used_method i j) ((bare_method i j) y)))
  method_step_follows y = method_made_follows inside y.flow y.key.1 y.params.1 y.body

  class_step_follows : (y : (ClassLayer i j)) → RClass (class_step by_scopes i ((made_class i j) ((bare_class i j) y))) (class_step by_uses j ((used_class i j) ((bare_class i j) y)))
  class_step_follows y = class_at y.name y.parent y.members

  member_step_follows : (y : (MemberLayer i j)) → RMember (member_step by_scopes i ((made_member i j) ((bare_member i j) y))) (member_step by_uses j ((used_member i j) ((bare_member i j) y)))
  member_step_follows y = member_follows y.is_static y.method.1

  target_step_follows : (y : (TargetLayer i j)) → RTarget (target_step by_scopes i ((made_target i j) ((bare_target i j) y))) (target_step by_uses j ((used_target i j) ((bare_target i j) y)))
  target_step_follows (Target-F.Target::Name name) = name_target_follows name
  target_step_follows (Target-F.Target::Object props rest) = object_target_follows (with_lists RProp _ _ props) rest
  target_step_follows (Target-F.Target::Array elems rest) = array_target_follows (with_lists RElem _ _ elems) rest

  prop_step_follows : (y : (PropLayer i j)) → RProp (prop_step by_scopes i ((made_prop i j) ((bare_prop i j) y))) (prop_step by_uses j ((used_prop i j) ((bare_prop i j) y)))
  prop_step_follows (Prop-F.Prop::Shorthand name None) = shorthand_follows name absent
  prop_step_follows (Prop-F.Prop::Shorthand name (Some x)) = shorthand_follows name (present x.1.named)
  prop_step_follows (Prop-F.Prop::Pair k elem) = pair_follows k.1 elem.1

  elem_step_follows : (y : (ElemLayer i j)) → RElem (elem_step by_scopes i ((made_elem i j) ((bare_elem i j) y))) (elem_step by_uses j ((used_elem i j) ((bare_elem i j) y)))
  elem_step_follows y = elem_at y.target y.default

  params_step_follows : (y : (ParamsLayer i j)) → RParams (params_step by_scopes i ((made_params i j) ((bare_params i j) y))) (params_step by_uses j ((used_params i j) ((bare_params i j) y)))
  params_step_follows y = params_at y.elems y.rest

  -- ---- all parts

  argument_case : (y : (ArgumentLayer i j)) → (ArgumentFollows i j) (roll-Argument ((bare_argument i j) y))
  unfolding argument_of entry_of expression key_of suffix_of prop_of target_of operand_of piece_of class_of function_of member_of method_of elem_of params_of
  argument_case y = subst (λ z. Follows z (argument_of by_uses j (roll-Argument ((bare_argument i j) y)))) (sym (fold-roll-Argument (Making CoreArgument) (Making CoreEntry) Expression MadeKey Suffixed MadeProp MadeTarget MadeOperand (Making CorePiece) MadeClass MadeFunction MadeMember MadeMethod MadeElem MadeParams (argument_step by_scopes i) (entry_step by_scopes i) (expr_step by_scopes i) (key_step by_scopes i) (suffix_step by_scopes i) (prop_step by_scopes i) (target_step by_scopes i) (operand_step by_scopes i) (piece_step by_scopes i) (class_step by_scopes i) (function_step by_scopes i) (member_step by_scopes i) (method_step by_scopes i) (elem_step by_scopes i) (params_step by_scopes i) ((bare_argument i j) y))) (subst (λ z. Follows (argument_step by_scopes i ((made_argument i j) ((bare_argument i j) y))) z) (sym (fold-roll-Argument (Making CoreArgument) (Making CoreEntry) Expression MadeKey Suffixed MadeProp MadeTarget MadeOperand (Making CorePiece) MadeClass MadeFunction MadeMember MadeMethod MadeElem MadeParams (argument_step by_uses j) (entry_step by_uses j) (expr_step by_uses j) (key_step by_uses j) (suffix_step by_uses j) (prop_step by_uses j) (target_step by_uses j) (operand_step by_uses j) (piece_step by_uses j) (class_step by_uses j) (function_step by_uses j) (member_step by_uses j) (method_step by_uses j) (elem_step by_uses j) (params_step by_uses j) ((bare_argument i j) y))) (argument_step_follows y))

  entry_case : (y : (EntryLayer i j)) → (EntryFollows i j) (roll-Entry ((bare_entry i j) y))
  unfolding argument_of entry_of expression key_of suffix_of prop_of target_of operand_of piece_of class_of function_of member_of method_of elem_of params_of
  entry_case y = subst (λ z. Follows z (entry_of by_uses j (roll-Entry ((bare_entry i j) y)))) (sym (fold-roll-Entry (Making CoreArgument) (Making CoreEntry) Expression MadeKey Suffixed MadeProp MadeTarget MadeOperand (Making CorePiece) MadeClass MadeFunction MadeMember MadeMethod MadeElem MadeParams (argument_step by_scopes i) (entry_step by_scopes i) (expr_step by_scopes i) (key_step by_scopes i) (suffix_step by_scopes i) (prop_step by_scopes i) (target_step by_scopes i) (operand_step by_scopes i) (piece_step by_scopes i) (class_step by_scopes i) (function_step by_scopes i) (member_step by_scopes i) (method_step by_scopes i) (elem_step by_scopes i) (params_step by_scopes i) ((bare_entry i j) y))) (subst (λ z. Follows (entry_step by_scopes i ((made_entry i j) ((bare_entry i j) y))) z) (sym (fold-roll-Entry (Making CoreArgument) (Making CoreEntry) Expression MadeKey Suffixed MadeProp MadeTarget MadeOperand (Making CorePiece) MadeClass MadeFunction MadeMember MadeMethod MadeElem MadeParams (argument_step by_uses j) (entry_step by_uses j) (expr_step by_uses j) (key_step by_uses j) (suffix_step by_uses j) (prop_step by_uses j) (target_step by_uses j) (operand_step by_uses j) (piece_step by_uses j) (class_step by_uses j) (function_step by_uses j) (member_step by_uses j) (method_step by_uses j) (elem_step by_uses j) (params_step by_uses j) ((bare_entry i j) y))) (entry_step_follows y))

  expr_case : (y : (ExprLayer i j)) → (ExprFollows i j) (roll-Expr ((bare_expr i j) y))
  unfolding argument_of entry_of expression key_of suffix_of prop_of target_of operand_of piece_of class_of function_of member_of method_of elem_of params_of
  expr_case y = subst (λ z. RExpression z (expression by_uses j (roll-Expr ((bare_expr i j) y)))) (sym (fold-roll-Expr (Making CoreArgument) (Making CoreEntry) Expression MadeKey Suffixed MadeProp MadeTarget MadeOperand (Making CorePiece) MadeClass MadeFunction MadeMember MadeMethod MadeElem MadeParams (argument_step by_scopes i) (entry_step by_scopes i) (expr_step by_scopes i) (key_step by_scopes i) (suffix_step by_scopes i) (prop_step by_scopes i) (target_step by_scopes i) (operand_step by_scopes i) (piece_step by_scopes i) (class_step by_scopes i) (function_step by_scopes i) (member_step by_scopes i) (method_step by_scopes i) (elem_step by_scopes i) (params_step by_scopes i) ((bare_expr i j) y))) (subst (λ z. RExpression (expr_step by_scopes i ((made_expr i j) ((bare_expr i j) y))) z) (sym (fold-roll-Expr (Making CoreArgument) (Making CoreEntry) Expression MadeKey Suffixed MadeProp MadeTarget MadeOperand (Making CorePiece) MadeClass MadeFunction MadeMember MadeMethod MadeElem MadeParams (argument_step by_uses j) (entry_step by_uses j) (expr_step by_uses j) (key_step by_uses j) (suffix_step by_uses j) (prop_step by_uses j) (target_step by_uses j) (operand_step by_uses j) (piece_step by_uses j) (class_step by_uses j) (function_step by_uses j) (member_step by_uses j) (method_step by_uses j) (elem_step by_uses j) (params_step by_uses j) ((bare_expr i j) y))) (expr_step_follows y))

  key_case : (y : (KeyLayer i j)) → (KeyFollows i j) (roll-Key ((bare_key i j) y))
  unfolding argument_of entry_of expression key_of suffix_of prop_of target_of operand_of piece_of class_of function_of member_of method_of elem_of params_of
  key_case y = subst (λ z. RKey z (key_of by_uses j (roll-Key ((bare_key i j) y)))) (sym (fold-roll-Key (Making CoreArgument) (Making CoreEntry) Expression MadeKey Suffixed MadeProp MadeTarget MadeOperand (Making CorePiece) MadeClass MadeFunction MadeMember MadeMethod MadeElem MadeParams (argument_step by_scopes i) (entry_step by_scopes i) (expr_step by_scopes i) (key_step by_scopes i) (suffix_step by_scopes i) (prop_step by_scopes i) (target_step by_scopes i) (operand_step by_scopes i) (piece_step by_scopes i) (class_step by_scopes i) (function_step by_scopes i) (member_step by_scopes i) (method_step by_scopes i) (elem_step by_scopes i) (params_step by_scopes i) ((bare_key i j) y))) (subst (λ z. RKey (key_step by_scopes i ((made_key i j) ((bare_key i j) y))) z) (sym (fold-roll-Key (Making CoreArgument) (Making CoreEntry) Expression MadeKey Suffixed MadeProp MadeTarget MadeOperand (Making CorePiece) MadeClass MadeFunction MadeMember MadeMethod MadeElem MadeParams (argument_step by_uses j) (entry_step by_uses j) (expr_step by_uses j) (key_step by_uses j) (suffix_step by_uses j) (prop_step by_uses j) (target_step by_uses j) (operand_step by_uses j) (piece_step by_uses j) (class_step by_uses j) (function_step by_uses j) (member_step by_uses j) (method_step by_uses j) (elem_step by_uses j) (params_step by_uses j) ((bare_key i j) y))) (key_step_follows y))

  suffix_case : (y : (SuffixLayer i j)) → (SuffixFollows i j) (roll-Suffix ((bare_suffix i j) y))
  unfolding argument_of entry_of expression key_of suffix_of prop_of target_of operand_of piece_of class_of function_of member_of method_of elem_of params_of
  suffix_case y = subst (λ z. RSuffixed z (suffix_of by_uses j (roll-Suffix ((bare_suffix i j) y)))) (sym (fold-roll-Suffix (Making CoreArgument) (Making CoreEntry) Expression MadeKey Suffixed MadeProp MadeTarget MadeOperand (Making CorePiece) MadeClass MadeFunction MadeMember MadeMethod MadeElem MadeParams (argument_step by_scopes i) (entry_step by_scopes i) (expr_step by_scopes i) (key_step by_scopes i) (suffix_step by_scopes i) (prop_step by_scopes i) (target_step by_scopes i) (operand_step by_scopes i) (piece_step by_scopes i) (class_step by_scopes i) (function_step by_scopes i) (member_step by_scopes i) (method_step by_scopes i) (elem_step by_scopes i) (params_step by_scopes i) ((bare_suffix i j) y))) (subst (λ z. RSuffixed (suffix_step by_scopes i ((made_suffix i j) ((bare_suffix i j) y))) z) (sym (fold-roll-Suffix (Making CoreArgument) (Making CoreEntry) Expression MadeKey Suffixed MadeProp MadeTarget MadeOperand (Making CorePiece) MadeClass MadeFunction MadeMember MadeMethod MadeElem MadeParams (argument_step by_uses j) (entry_step by_uses j) (expr_step by_uses j) (key_step by_uses j) (suffix_step by_uses j) (prop_step by_uses j) (target_step by_uses j) (operand_step by_uses j) (piece_step by_uses j) (class_step by_uses j) (function_step by_uses j) (member_step by_uses j) (method_step by_uses j) (elem_step by_uses j) (params_step by_uses j) ((bare_suffix i j) y))) (suffix_step_follows y))

  prop_case : (y : (PropLayer i j)) → (PropFollows i j) (roll-Prop ((bare_prop i j) y))
  unfolding argument_of entry_of expression key_of suffix_of prop_of target_of operand_of piece_of class_of function_of member_of method_of elem_of params_of
  prop_case y = subst (λ z. RProp z (prop_of by_uses j (roll-Prop ((bare_prop i j) y)))) (sym (fold-roll-Prop (Making CoreArgument) (Making CoreEntry) Expression MadeKey Suffixed MadeProp MadeTarget MadeOperand (Making CorePiece) MadeClass MadeFunction MadeMember MadeMethod MadeElem MadeParams (argument_step by_scopes i) (entry_step by_scopes i) (expr_step by_scopes i) (key_step by_scopes i) (suffix_step by_scopes i) (prop_step by_scopes i) (target_step by_scopes i) (operand_step by_scopes i) (piece_step by_scopes i) (class_step by_scopes i) (function_step by_scopes i) (member_step by_scopes i) (method_step by_scopes i) (elem_step by_scopes i) (params_step by_scopes i) ((bare_prop i j) y))) (subst (λ z. RProp (prop_step by_scopes i ((made_prop i j) ((bare_prop i j) y))) z) (sym (fold-roll-Prop (Making CoreArgument) (Making CoreEntry) Expression MadeKey Suffixed MadeProp MadeTarget MadeOperand (Making CorePiece) MadeClass MadeFunction MadeMember MadeMethod MadeElem MadeParams (argument_step by_uses j) (entry_step by_uses j) (expr_step by_uses j) (key_step by_uses j) (suffix_step by_uses j) (prop_step by_uses j) (target_step by_uses j) (operand_step by_uses j) (piece_step by_uses j) (class_step by_uses j) (function_step by_uses j) (member_step by_uses j) (method_step by_uses j) (elem_step by_uses j) (params_step by_uses j) ((bare_prop i j) y))) (prop_step_follows y))

  target_case : (y : (TargetLayer i j)) → (TargetFollows i j) (roll-Target ((bare_target i j) y))
  unfolding argument_of entry_of expression key_of suffix_of prop_of target_of operand_of piece_of class_of function_of member_of method_of elem_of params_of
  target_case y = subst (λ z. RTarget z (target_of by_uses j (roll-Target ((bare_target i j) y)))) (sym (fold-roll-Target (Making CoreArgument) (Making CoreEntry) Expression MadeKey Suffixed MadeProp MadeTarget MadeOperand (Making CorePiece) MadeClass MadeFunction MadeMember MadeMethod MadeElem MadeParams (argument_step by_scopes i) (entry_step by_scopes i) (expr_step by_scopes i) (key_step by_scopes i) (suffix_step by_scopes i) (prop_step by_scopes i) (target_step by_scopes i) (operand_step by_scopes i) (piece_step by_scopes i) (class_step by_scopes i) (function_step by_scopes i) (member_step by_scopes i) (method_step by_scopes i) (elem_step by_scopes i) (params_step by_scopes i) ((bare_target i j) y))) (subst (λ z. RTarget (target_step by_scopes i ((made_target i j) ((bare_target i j) y))) z) (sym (fold-roll-Target (Making CoreArgument) (Making CoreEntry) Expression MadeKey Suffixed MadeProp MadeTarget MadeOperand (Making CorePiece) MadeClass MadeFunction MadeMember MadeMethod MadeElem MadeParams (argument_step by_uses j) (entry_step by_uses j) (expr_step by_uses j) (key_step by_uses j) (suffix_step by_uses j) (prop_step by_uses j) (target_step by_uses j) (operand_step by_uses j) (piece_step by_uses j) (class_step by_uses j) (function_step by_uses j) (member_step by_uses j) (method_step by_uses j) (elem_step by_uses j) (params_step by_uses j) ((bare_target i j) y))) (target_step_follows y))

  operand_case : (y : (OperandLayer i j)) → (OperandFollows i j) (roll-Operand ((bare_operand i j) y))
  unfolding argument_of entry_of expression key_of suffix_of prop_of target_of operand_of piece_of class_of function_of member_of method_of elem_of params_of
  operand_case y = subst (λ z. ROperand z (operand_of by_uses j (roll-Operand ((bare_operand i j) y)))) (sym (fold-roll-Operand (Making CoreArgument) (Making CoreEntry) Expression MadeKey Suffixed MadeProp MadeTarget MadeOperand (Making CorePiece) MadeClass MadeFunction MadeMember MadeMethod MadeElem MadeParams (argument_step by_scopes i) (entry_step by_scopes i) (expr_step by_scopes i) (key_step by_scopes i) (suffix_step by_scopes i) (prop_step by_scopes i) (target_step by_scopes i) (operand_step by_scopes i) (piece_step by_scopes i) (class_step by_scopes i) (function_step by_scopes i) (member_step by_scopes i) (method_step by_scopes i) (elem_step by_scopes i) (params_step by_scopes i) ((bare_operand i j) y))) (subst (λ z. ROperand (operand_step by_scopes i ((made_operand i j) ((bare_operand i j) y))) z) (sym (fold-roll-Operand (Making CoreArgument) (Making CoreEntry) Expression MadeKey Suffixed MadeProp MadeTarget MadeOperand (Making CorePiece) MadeClass MadeFunction MadeMember MadeMethod MadeElem MadeParams (argument_step by_uses j) (entry_step by_uses j) (expr_step by_uses j) (key_step by_uses j) (suffix_step by_uses j) (prop_step by_uses j) (target_step by_uses j) (operand_step by_uses j) (piece_step by_uses j) (class_step by_uses j) (function_step by_uses j) (member_step by_uses j) (method_step by_uses j) (elem_step by_uses j) (params_step by_uses j) ((bare_operand i j) y))) (operand_step_follows y))

  piece_case : (y : (PieceLayer i j)) → (PieceFollows i j) (roll-Piece ((bare_piece i j) y))
  unfolding argument_of entry_of expression key_of suffix_of prop_of target_of operand_of piece_of class_of function_of member_of method_of elem_of params_of
  piece_case y = subst (λ z. Follows z (piece_of by_uses j (roll-Piece ((bare_piece i j) y)))) (sym (fold-roll-Piece (Making CoreArgument) (Making CoreEntry) Expression MadeKey Suffixed MadeProp MadeTarget MadeOperand (Making CorePiece) MadeClass MadeFunction MadeMember MadeMethod MadeElem MadeParams (argument_step by_scopes i) (entry_step by_scopes i) (expr_step by_scopes i) (key_step by_scopes i) (suffix_step by_scopes i) (prop_step by_scopes i) (target_step by_scopes i) (operand_step by_scopes i) (piece_step by_scopes i) (class_step by_scopes i) (function_step by_scopes i) (member_step by_scopes i) (method_step by_scopes i) (elem_step by_scopes i) (params_step by_scopes i) ((bare_piece i j) y))) (subst (λ z. Follows (piece_step by_scopes i ((made_piece i j) ((bare_piece i j) y))) z) (sym (fold-roll-Piece (Making CoreArgument) (Making CoreEntry) Expression MadeKey Suffixed MadeProp MadeTarget MadeOperand (Making CorePiece) MadeClass MadeFunction MadeMember MadeMethod MadeElem MadeParams (argument_step by_uses j) (entry_step by_uses j) (expr_step by_uses j) (key_step by_uses j) (suffix_step by_uses j) (prop_step by_uses j) (target_step by_uses j) (operand_step by_uses j) (piece_step by_uses j) (class_step by_uses j) (function_step by_uses j) (member_step by_uses j) (method_step by_uses j) (elem_step by_uses j) (params_step by_uses j) ((bare_piece i j) y))) (piece_step_follows y))

  class_case : (y : (ClassLayer i j)) → (ClassFollows i j) (roll-Class ((bare_class i j) y))
  unfolding argument_of entry_of expression key_of suffix_of prop_of target_of operand_of piece_of class_of function_of member_of method_of elem_of params_of
  class_case y = subst (λ z. RClass z (class_of by_uses j (roll-Class ((bare_class i j) y)))) (sym (fold-roll-Class (Making CoreArgument) (Making CoreEntry) Expression MadeKey Suffixed MadeProp MadeTarget MadeOperand (Making CorePiece) MadeClass MadeFunction MadeMember MadeMethod MadeElem MadeParams (argument_step by_scopes i) (entry_step by_scopes i) (expr_step by_scopes i) (key_step by_scopes i) (suffix_step by_scopes i) (prop_step by_scopes i) (target_step by_scopes i) (operand_step by_scopes i) (piece_step by_scopes i) (class_step by_scopes i) (function_step by_scopes i) (member_step by_scopes i) (method_step by_scopes i) (elem_step by_scopes i) (params_step by_scopes i) ((bare_class i j) y))) (subst (λ z. RClass (class_step by_scopes i ((made_class i j) ((bare_class i j) y))) z) (sym (fold-roll-Class (Making CoreArgument) (Making CoreEntry) Expression MadeKey Suffixed MadeProp MadeTarget MadeOperand (Making CorePiece) MadeClass MadeFunction MadeMember MadeMethod MadeElem MadeParams (argument_step by_uses j) (entry_step by_uses j) (expr_step by_uses j) (key_step by_uses j) (suffix_step by_uses j) (prop_step by_uses j) (target_step by_uses j) (operand_step by_uses j) (piece_step by_uses j) (class_step by_uses j) (function_step by_uses j) (member_step by_uses j) (method_step by_uses j) (elem_step by_uses j) (params_step by_uses j) ((bare_class i j) y))) (class_step_follows y))

  function_case : (y : (FunctionLayer i j)) → (FunctionFollows i j) (roll-Function ((bare_function i j) y))
  unfolding argument_of entry_of expression key_of suffix_of prop_of target_of operand_of piece_of class_of function_of member_of method_of elem_of params_of
  function_case y = subst (λ z. RFunction z (function_of by_uses j (roll-Function ((bare_function i j) y)))) (sym (fold-roll-Function (Making CoreArgument) (Making CoreEntry) Expression MadeKey Suffixed MadeProp MadeTarget MadeOperand (Making CorePiece) MadeClass MadeFunction MadeMember MadeMethod MadeElem MadeParams (argument_step by_scopes i) (entry_step by_scopes i) (expr_step by_scopes i) (key_step by_scopes i) (suffix_step by_scopes i) (prop_step by_scopes i) (target_step by_scopes i) (operand_step by_scopes i) (piece_step by_scopes i) (class_step by_scopes i) (function_step by_scopes i) (member_step by_scopes i) (method_step by_scopes i) (elem_step by_scopes i) (params_step by_scopes i) ((bare_function i j) y))) (subst (λ z. RFunction (function_step by_scopes i ((made_function i j) ((bare_function i j) y))) z) (sym (fold-roll-Function (Making CoreArgument) (Making CoreEntry) Expression MadeKey Suffixed MadeProp MadeTarget MadeOperand (Making CorePiece) MadeClass MadeFunction MadeMember MadeMethod MadeElem MadeParams (argument_step by_uses j) (entry_step by_uses j) (expr_step by_uses j) (key_step by_uses j) (suffix_step by_uses j) (prop_step by_uses j) (target_step by_uses j) (operand_step by_uses j) (piece_step by_uses j) (class_step by_uses j) (function_step by_uses j) (member_step by_uses j) (method_step by_uses j) (elem_step by_uses j) (params_step by_uses j) ((bare_function i j) y))) (function_step_follows y))

  member_case : (y : (MemberLayer i j)) → (MemberFollows i j) (roll-Member ((bare_member i j) y))
  unfolding argument_of entry_of expression key_of suffix_of prop_of target_of operand_of piece_of class_of function_of member_of method_of elem_of params_of
  member_case y = subst (λ z. RMember z (member_of by_uses j (roll-Member ((bare_member i j) y)))) (sym (fold-roll-Member (Making CoreArgument) (Making CoreEntry) Expression MadeKey Suffixed MadeProp MadeTarget MadeOperand (Making CorePiece) MadeClass MadeFunction MadeMember MadeMethod MadeElem MadeParams (argument_step by_scopes i) (entry_step by_scopes i) (expr_step by_scopes i) (key_step by_scopes i) (suffix_step by_scopes i) (prop_step by_scopes i) (target_step by_scopes i) (operand_step by_scopes i) (piece_step by_scopes i) (class_step by_scopes i) (function_step by_scopes i) (member_step by_scopes i) (method_step by_scopes i) (elem_step by_scopes i) (params_step by_scopes i) ((bare_member i j) y))) (subst (λ z. RMember (member_step by_scopes i ((made_member i j) ((bare_member i j) y))) z) (sym (fold-roll-Member (Making CoreArgument) (Making CoreEntry) Expression MadeKey Suffixed MadeProp MadeTarget MadeOperand (Making CorePiece) MadeClass MadeFunction MadeMember MadeMethod MadeElem MadeParams (argument_step by_uses j) (entry_step by_uses j) (expr_step by_uses j) (key_step by_uses j) (suffix_step by_uses j) (prop_step by_uses j) (target_step by_uses j) (operand_step by_uses j) (piece_step by_uses j) (class_step by_uses j) (function_step by_uses j) (member_step by_uses j) (method_step by_uses j) (elem_step by_uses j) (params_step by_uses j) ((bare_member i j) y))) (member_step_follows y))

  method_case : (y : (MethodLayer i j)) → (MethodFollows i j) (roll-Method ((bare_method i j) y))
  unfolding argument_of entry_of expression key_of suffix_of prop_of target_of operand_of piece_of class_of function_of member_of method_of elem_of params_of
  method_case y = subst (λ z. RMethod z (method_of by_uses j (roll-Method ((bare_method i j) y)))) (sym (fold-roll-Method (Making CoreArgument) (Making CoreEntry) Expression MadeKey Suffixed MadeProp MadeTarget MadeOperand (Making CorePiece) MadeClass MadeFunction MadeMember MadeMethod MadeElem MadeParams (argument_step by_scopes i) (entry_step by_scopes i) (expr_step by_scopes i) (key_step by_scopes i) (suffix_step by_scopes i) (prop_step by_scopes i) (target_step by_scopes i) (operand_step by_scopes i) (piece_step by_scopes i) (class_step by_scopes i) (function_step by_scopes i) (member_step by_scopes i) (method_step by_scopes i) (elem_step by_scopes i) (params_step by_scopes i) ((bare_method i j) y))) (subst (λ z. RMethod (method_step by_scopes i ((made_method i j) ((bare_method i j) y))) z) (sym (fold-roll-Method (Making CoreArgument) (Making CoreEntry) Expression MadeKey Suffixed MadeProp MadeTarget MadeOperand (Making CorePiece) MadeClass MadeFunction MadeMember MadeMethod MadeElem MadeParams (argument_step by_uses j) (entry_step by_uses j) (expr_step by_uses j) (key_step by_uses j) (suffix_step by_uses j) (prop_step by_uses j) (target_step by_uses j) (operand_step by_uses j) (piece_step by_uses j) (class_step by_uses j) (function_step by_uses j) (member_step by_uses j) (method_step by_uses j) (elem_step by_uses j) (params_step by_uses j) ((bare_method i j) y))) (method_step_follows y))

  elem_case : (y : (ElemLayer i j)) → (ElemFollows i j) (roll-Elem ((bare_elem i j) y))
  unfolding argument_of entry_of expression key_of suffix_of prop_of target_of operand_of piece_of class_of function_of member_of method_of elem_of params_of
  elem_case y = subst (λ z. RElem z (elem_of by_uses j (roll-Elem ((bare_elem i j) y)))) (sym (fold-roll-Elem (Making CoreArgument) (Making CoreEntry) Expression MadeKey Suffixed MadeProp MadeTarget MadeOperand (Making CorePiece) MadeClass MadeFunction MadeMember MadeMethod MadeElem MadeParams (argument_step by_scopes i) (entry_step by_scopes i) (expr_step by_scopes i) (key_step by_scopes i) (suffix_step by_scopes i) (prop_step by_scopes i) (target_step by_scopes i) (operand_step by_scopes i) (piece_step by_scopes i) (class_step by_scopes i) (function_step by_scopes i) (member_step by_scopes i) (method_step by_scopes i) (elem_step by_scopes i) (params_step by_scopes i) ((bare_elem i j) y))) (subst (λ z. RElem (elem_step by_scopes i ((made_elem i j) ((bare_elem i j) y))) z) (sym (fold-roll-Elem (Making CoreArgument) (Making CoreEntry) Expression MadeKey Suffixed MadeProp MadeTarget MadeOperand (Making CorePiece) MadeClass MadeFunction MadeMember MadeMethod MadeElem MadeParams (argument_step by_uses j) (entry_step by_uses j) (expr_step by_uses j) (key_step by_uses j) (suffix_step by_uses j) (prop_step by_uses j) (target_step by_uses j) (operand_step by_uses j) (piece_step by_uses j) (class_step by_uses j) (function_step by_uses j) (member_step by_uses j) (method_step by_uses j) (elem_step by_uses j) (params_step by_uses j) ((bare_elem i j) y))) (elem_step_follows y))

  params_case : (y : (ParamsLayer i j)) → (ParamsFollows i j) (roll-Params ((bare_params i j) y))
  unfolding argument_of entry_of expression key_of suffix_of prop_of target_of operand_of piece_of class_of function_of member_of method_of elem_of params_of
  params_case y = subst (λ z. RParams z (params_of by_uses j (roll-Params ((bare_params i j) y)))) (sym (fold-roll-Params (Making CoreArgument) (Making CoreEntry) Expression MadeKey Suffixed MadeProp MadeTarget MadeOperand (Making CorePiece) MadeClass MadeFunction MadeMember MadeMethod MadeElem MadeParams (argument_step by_scopes i) (entry_step by_scopes i) (expr_step by_scopes i) (key_step by_scopes i) (suffix_step by_scopes i) (prop_step by_scopes i) (target_step by_scopes i) (operand_step by_scopes i) (piece_step by_scopes i) (class_step by_scopes i) (function_step by_scopes i) (member_step by_scopes i) (method_step by_scopes i) (elem_step by_scopes i) (params_step by_scopes i) ((bare_params i j) y))) (subst (λ z. RParams (params_step by_scopes i ((made_params i j) ((bare_params i j) y))) z) (sym (fold-roll-Params (Making CoreArgument) (Making CoreEntry) Expression MadeKey Suffixed MadeProp MadeTarget MadeOperand (Making CorePiece) MadeClass MadeFunction MadeMember MadeMethod MadeElem MadeParams (argument_step by_uses j) (entry_step by_uses j) (expr_step by_uses j) (key_step by_uses j) (suffix_step by_uses j) (prop_step by_uses j) (target_step by_uses j) (operand_step by_uses j) (piece_step by_uses j) (class_step by_uses j) (function_step by_uses j) (member_step by_uses j) (method_step by_uses j) (elem_step by_uses j) (params_step by_uses j) ((bare_params i j) y))) (params_step_follows y))

  pub expr_follows : (x : Expr) → (ExprFollows i j) x
  expr_follows = ind-Expr (ArgumentFollows i j) (EntryFollows i j) (ExprFollows i j) (KeyFollows i j) (SuffixFollows i j) (PropFollows i j) (TargetFollows i j) (OperandFollows i j) (PieceFollows i j) (ClassFollows i j) (FunctionFollows i j) (MemberFollows i j) (MethodFollows i j) (ElemFollows i j) (ParamsFollows i j)
      (λ x y is. subst (λ z. (ArgumentFollows i j) (roll-Argument z)) is (argument_case y))
      (λ x y is. subst (λ z. (EntryFollows i j) (roll-Entry z)) is (entry_case y))
      (λ x y is. subst (λ z. (ExprFollows i j) (roll-Expr z)) is (expr_case y))
      (λ x y is. subst (λ z. (KeyFollows i j) (roll-Key z)) is (key_case y))
      (λ x y is. subst (λ z. (SuffixFollows i j) (roll-Suffix z)) is (suffix_case y))
      (λ x y is. subst (λ z. (PropFollows i j) (roll-Prop z)) is (prop_case y))
      (λ x y is. subst (λ z. (TargetFollows i j) (roll-Target z)) is (target_case y))
      (λ x y is. subst (λ z. (OperandFollows i j) (roll-Operand z)) is (operand_case y))
      (λ x y is. subst (λ z. (PieceFollows i j) (roll-Piece z)) is (piece_case y))
      (λ x y is. subst (λ z. (ClassFollows i j) (roll-Class z)) is (class_case y))
      (λ x y is. subst (λ z. (FunctionFollows i j) (roll-Function z)) is (function_case y))
      (λ x y is. subst (λ z. (MemberFollows i j) (roll-Member z)) is (member_case y))
      (λ x y is. subst (λ z. (MethodFollows i j) (roll-Method z)) is (method_case y))
      (λ x y is. subst (λ z. (ElemFollows i j) (roll-Elem z)) is (elem_case y))
      (λ x y is. subst (λ z. (ParamsFollows i j) (roll-Params z)) is (params_case y))

  pub function_follows : (x : Function) → (FunctionFollows i j) x
  function_follows = ind-Function (ArgumentFollows i j) (EntryFollows i j) (ExprFollows i j) (KeyFollows i j) (SuffixFollows i j) (PropFollows i j) (TargetFollows i j) (OperandFollows i j) (PieceFollows i j) (ClassFollows i j) (FunctionFollows i j) (MemberFollows i j) (MethodFollows i j) (ElemFollows i j) (ParamsFollows i j)
      (λ x y is. subst (λ z. (ArgumentFollows i j) (roll-Argument z)) is (argument_case y))
      (λ x y is. subst (λ z. (EntryFollows i j) (roll-Entry z)) is (entry_case y))
      (λ x y is. subst (λ z. (ExprFollows i j) (roll-Expr z)) is (expr_case y))
      (λ x y is. subst (λ z. (KeyFollows i j) (roll-Key z)) is (key_case y))
      (λ x y is. subst (λ z. (SuffixFollows i j) (roll-Suffix z)) is (suffix_case y))
      (λ x y is. subst (λ z. (PropFollows i j) (roll-Prop z)) is (prop_case y))
      (λ x y is. subst (λ z. (TargetFollows i j) (roll-Target z)) is (target_case y))
      (λ x y is. subst (λ z. (OperandFollows i j) (roll-Operand z)) is (operand_case y))
      (λ x y is. subst (λ z. (PieceFollows i j) (roll-Piece z)) is (piece_case y))
      (λ x y is. subst (λ z. (ClassFollows i j) (roll-Class z)) is (class_case y))
      (λ x y is. subst (λ z. (FunctionFollows i j) (roll-Function z)) is (function_case y))
      (λ x y is. subst (λ z. (MemberFollows i j) (roll-Member z)) is (member_case y))
      (λ x y is. subst (λ z. (MethodFollows i j) (roll-Method z)) is (method_case y))
      (λ x y is. subst (λ z. (ElemFollows i j) (roll-Elem z)) is (elem_case y))
      (λ x y is. subst (λ z. (ParamsFollows i j) (roll-Params z)) is (params_case y))

  pub class_follows : (x : Class) → (ClassFollows i j) x
  class_follows = ind-Class (ArgumentFollows i j) (EntryFollows i j) (ExprFollows i j) (KeyFollows i j) (SuffixFollows i j) (PropFollows i j) (TargetFollows i j) (OperandFollows i j) (PieceFollows i j) (ClassFollows i j) (FunctionFollows i j) (MemberFollows i j) (MethodFollows i j) (ElemFollows i j) (ParamsFollows i j)
      (λ x y is. subst (λ z. (ArgumentFollows i j) (roll-Argument z)) is (argument_case y))
      (λ x y is. subst (λ z. (EntryFollows i j) (roll-Entry z)) is (entry_case y))
      (λ x y is. subst (λ z. (ExprFollows i j) (roll-Expr z)) is (expr_case y))
      (λ x y is. subst (λ z. (KeyFollows i j) (roll-Key z)) is (key_case y))
      (λ x y is. subst (λ z. (SuffixFollows i j) (roll-Suffix z)) is (suffix_case y))
      (λ x y is. subst (λ z. (PropFollows i j) (roll-Prop z)) is (prop_case y))
      (λ x y is. subst (λ z. (TargetFollows i j) (roll-Target z)) is (target_case y))
      (λ x y is. subst (λ z. (OperandFollows i j) (roll-Operand z)) is (operand_case y))
      (λ x y is. subst (λ z. (PieceFollows i j) (roll-Piece z)) is (piece_case y))
      (λ x y is. subst (λ z. (ClassFollows i j) (roll-Class z)) is (class_case y))
      (λ x y is. subst (λ z. (FunctionFollows i j) (roll-Function z)) is (function_case y))
      (λ x y is. subst (λ z. (MemberFollows i j) (roll-Member z)) is (member_case y))
      (λ x y is. subst (λ z. (MethodFollows i j) (roll-Method z)) is (method_case y))
      (λ x y is. subst (λ z. (ElemFollows i j) (roll-Elem z)) is (elem_case y))
      (λ x y is. subst (λ z. (ParamsFollows i j) (roll-Params z)) is (params_case y))

  pub target_follows : (x : Target) → (TargetFollows i j) x
  target_follows = ind-Target (ArgumentFollows i j) (EntryFollows i j) (ExprFollows i j) (KeyFollows i j) (SuffixFollows i j) (PropFollows i j) (TargetFollows i j) (OperandFollows i j) (PieceFollows i j) (ClassFollows i j) (FunctionFollows i j) (MemberFollows i j) (MethodFollows i j) (ElemFollows i j) (ParamsFollows i j)
      (λ x y is. subst (λ z. (ArgumentFollows i j) (roll-Argument z)) is (argument_case y))
      (λ x y is. subst (λ z. (EntryFollows i j) (roll-Entry z)) is (entry_case y))
      (λ x y is. subst (λ z. (ExprFollows i j) (roll-Expr z)) is (expr_case y))
      (λ x y is. subst (λ z. (KeyFollows i j) (roll-Key z)) is (key_case y))
      (λ x y is. subst (λ z. (SuffixFollows i j) (roll-Suffix z)) is (suffix_case y))
      (λ x y is. subst (λ z. (PropFollows i j) (roll-Prop z)) is (prop_case y))
      (λ x y is. subst (λ z. (TargetFollows i j) (roll-Target z)) is (target_case y))
      (λ x y is. subst (λ z. (OperandFollows i j) (roll-Operand z)) is (operand_case y))
      (λ x y is. subst (λ z. (PieceFollows i j) (roll-Piece z)) is (piece_case y))
      (λ x y is. subst (λ z. (ClassFollows i j) (roll-Class z)) is (class_case y))
      (λ x y is. subst (λ z. (FunctionFollows i j) (roll-Function z)) is (function_case y))
      (λ x y is. subst (λ z. (MemberFollows i j) (roll-Member z)) is (member_case y))
      (λ x y is. subst (λ z. (MethodFollows i j) (roll-Method z)) is (method_case y))
      (λ x y is. subst (λ z. (ElemFollows i j) (roll-Elem z)) is (elem_case y))
      (λ x y is. subst (λ z. (ParamsFollows i j) (roll-Params z)) is (params_case y))

  pub elem_follows : (x : Elem) → (ElemFollows i j) x
  elem_follows = ind-Elem (ArgumentFollows i j) (EntryFollows i j) (ExprFollows i j) (KeyFollows i j) (SuffixFollows i j) (PropFollows i j) (TargetFollows i j) (OperandFollows i j) (PieceFollows i j) (ClassFollows i j) (FunctionFollows i j) (MemberFollows i j) (MethodFollows i j) (ElemFollows i j) (ParamsFollows i j)
      (λ x y is. subst (λ z. (ArgumentFollows i j) (roll-Argument z)) is (argument_case y))
      (λ x y is. subst (λ z. (EntryFollows i j) (roll-Entry z)) is (entry_case y))
      (λ x y is. subst (λ z. (ExprFollows i j) (roll-Expr z)) is (expr_case y))
      (λ x y is. subst (λ z. (KeyFollows i j) (roll-Key z)) is (key_case y))
      (λ x y is. subst (λ z. (SuffixFollows i j) (roll-Suffix z)) is (suffix_case y))
      (λ x y is. subst (λ z. (PropFollows i j) (roll-Prop z)) is (prop_case y))
      (λ x y is. subst (λ z. (TargetFollows i j) (roll-Target z)) is (target_case y))
      (λ x y is. subst (λ z. (OperandFollows i j) (roll-Operand z)) is (operand_case y))
      (λ x y is. subst (λ z. (PieceFollows i j) (roll-Piece z)) is (piece_case y))
      (λ x y is. subst (λ z. (ClassFollows i j) (roll-Class z)) is (class_case y))
      (λ x y is. subst (λ z. (FunctionFollows i j) (roll-Function z)) is (function_case y))
      (λ x y is. subst (λ z. (MemberFollows i j) (roll-Member z)) is (member_case y))
      (λ x y is. subst (λ z. (MethodFollows i j) (roll-Method z)) is (method_case y))
      (λ x y is. subst (λ z. (ElemFollows i j) (roll-Elem z)) is (elem_case y))
      (λ x y is. subst (λ z. (ParamsFollows i j) (roll-Params z)) is (params_case y))
