-- Layers of expressions, patterns, functions and classes: a part with what holds of the parts in it.
use Rattle.std.proofs.Common.{◌≡◌, [], ◌∷◌}
use Rattle.actx_tree.specs.declared.expr.Argument.{Argument, Argument-F}
use Rattle.actx_tree.specs.declared.expr.Entry.{Entry, Entry-F}
use Rattle.actx_tree.specs.declared.expr.Expr.{Expr, Expr-F}
use Rattle.actx_tree.specs.declared.expr.Key.{Key, Key-F}
use Rattle.actx_tree.specs.declared.expr.Suffix.{Suffix, Suffix-F}
use Rattle.actx_tree.specs.declared.pattern.Prop.{Prop, Prop-F}
use Rattle.actx_tree.specs.declared.pattern.Target.{Target, Target-F}
use Rattle.actx_tree.specs.declared.expr.Operand.{Operand, Operand-F}
use Rattle.actx_tree.specs.declared.expr.Piece.{Piece, Piece-F}
use Rattle.actx_tree.specs.declared.function.Class.{Class, Class-F}
use Rattle.actx_tree.specs.declared.function.Function.{Function, Function-F}
use Rattle.actx_tree.specs.declared.function.Member.{Member, Member-F}
use Rattle.actx_tree.specs.declared.function.Method.{Method, Method-F}
use Rattle.actx_tree.specs.declared.pattern.Elem.{Elem, Elem-F}
use Rattle.actx_tree.specs.declared.pattern.Params.{Params, Params-F}
use Rattle.actx_tree.specs.declared.expr.Argument.TheFolds.{map-Argument, map-Entry, map-Expr, map-Key, map-Suffix, map-Prop, map-Target, map-Operand, map-Piece, map-Class, map-Function, map-Member, map-Method, map-Elem, map-Params}
use Rattle.actx_core.specs.declared.core_parts.CoreArgument.{CoreArgument}
use Rattle.actx_core.specs.declared.core_parts.CoreEntry.{CoreEntry}
use Rattle.actx_core.specs.declared.core_parts.CorePiece.{CorePiece}
use Rattle.actx_core.specs.Making.{Making}
use Rattle.actx_core.specs.Names.{by_scopes, by_uses}
use Rattle.actx_core.specs.Operators.{Operand as MadeOperand}
use Rattle.actx_core.specs.Functions.{Inside, Params as MadeParams, Function as MadeFunction, Key as MadeKey, Method as MadeMethod, Member as MadeMember, Class as MadeClass}
use Rattle.actx_core.specs.Patterns.{Target as MadeTarget, Elem as MadeElem, Prop as MadeProp}
use Rattle.actx_core.specs.Expressions.{Suffixed, Expression, argument_of, entry_of, expression, key_of, suffix_of, prop_of, target_of, operand_of, piece_of, class_of, function_of, member_of, method_of, elem_of, params_of}
use Rattle.actx_core.specs.Laws.{Follows}
use Rattle.actx_core.proofs.FollowParts.{RSuffixed, RExpression, ROperand, RParams, RFunction, RKey, RMethod, RMember, RClass, RTarget, RElem, RProp}

module _ (i j : Inside) where
  -- ---- what is to hold of each kind of part

  abbrev pub ArgumentFollows : Argument → Type 0
  ArgumentFollows x = Follows (argument_of by_scopes i x) (argument_of by_uses j x)

  abbrev pub EntryFollows : Entry → Type 0
  EntryFollows x = Follows (entry_of by_scopes i x) (entry_of by_uses j x)

  abbrev pub ExprFollows : Expr → Type 0
  ExprFollows x = RExpression (expression by_scopes i x) (expression by_uses j x)

  abbrev pub KeyFollows : Key → Type 0
  KeyFollows x = RKey (key_of by_scopes i x) (key_of by_uses j x)

  abbrev pub SuffixFollows : Suffix → Type 0
  SuffixFollows x = RSuffixed (suffix_of by_scopes i x) (suffix_of by_uses j x)

  abbrev pub PropFollows : Prop → Type 0
  PropFollows x = RProp (prop_of by_scopes i x) (prop_of by_uses j x)

  abbrev pub TargetFollows : Target → Type 0
  TargetFollows x = RTarget (target_of by_scopes i x) (target_of by_uses j x)

  abbrev pub OperandFollows : Operand → Type 0
  OperandFollows x = ROperand (operand_of by_scopes i x) (operand_of by_uses j x)

  abbrev pub PieceFollows : Piece → Type 0
  PieceFollows x = Follows (piece_of by_scopes i x) (piece_of by_uses j x)

  abbrev pub ClassFollows : Class → Type 0
  ClassFollows x = RClass (class_of by_scopes i x) (class_of by_uses j x)

  abbrev pub FunctionFollows : Function → Type 0
  FunctionFollows x = RFunction (function_of by_scopes i x) (function_of by_uses j x)

  abbrev pub MemberFollows : Member → Type 0
  MemberFollows x = RMember (member_of by_scopes i x) (member_of by_uses j x)

  abbrev pub MethodFollows : Method → Type 0
  MethodFollows x = RMethod (method_of by_scopes i x) (method_of by_uses j x)

  abbrev pub ElemFollows : Elem → Type 0
  ElemFollows x = RElem (elem_of by_scopes i x) (elem_of by_uses j x)

  abbrev pub ParamsFollows : Params → Type 0
  ParamsFollows x = RParams (params_of by_scopes i x) (params_of by_uses j x)

  abbrev pub ArgumentWith : Type 0
  ArgumentWith = (x : Argument) × ArgumentFollows x

  abbrev pub EntryWith : Type 0
  EntryWith = (x : Entry) × EntryFollows x

  abbrev pub ExprWith : Type 0
  ExprWith = (x : Expr) × ExprFollows x

  abbrev pub KeyWith : Type 0
  KeyWith = (x : Key) × KeyFollows x

  abbrev pub SuffixWith : Type 0
  SuffixWith = (x : Suffix) × SuffixFollows x

  abbrev pub PropWith : Type 0
  PropWith = (x : Prop) × PropFollows x

  abbrev pub TargetWith : Type 0
  TargetWith = (x : Target) × TargetFollows x

  abbrev pub OperandWith : Type 0
  OperandWith = (x : Operand) × OperandFollows x

  abbrev pub PieceWith : Type 0
  PieceWith = (x : Piece) × PieceFollows x

  abbrev pub ClassWith : Type 0
  ClassWith = (x : Class) × ClassFollows x

  abbrev pub FunctionWith : Type 0
  FunctionWith = (x : Function) × FunctionFollows x

  abbrev pub MemberWith : Type 0
  MemberWith = (x : Member) × MemberFollows x

  abbrev pub MethodWith : Type 0
  MethodWith = (x : Method) × MethodFollows x

  abbrev pub ElemWith : Type 0
  ElemWith = (x : Elem) × ElemFollows x

  abbrev pub ParamsWith : Type 0
  ParamsWith = (x : Params) × ParamsFollows x

  -- ---- a part with what holds of the parts in it; without that; and with what these become

  abbrev pub ArgumentLayer : Type 0
  ArgumentLayer = Argument-F ArgumentWith EntryWith ExprWith KeyWith SuffixWith PropWith TargetWith OperandWith PieceWith ClassWith FunctionWith MemberWith MethodWith ElemWith ParamsWith

  abbrev pub bare_argument : ArgumentLayer → Argument-F Argument Entry Expr Key Suffix Prop Target Operand Piece Class Function Member Method Elem Params
  bare_argument y = map-Argument ArgumentWith EntryWith ExprWith KeyWith SuffixWith PropWith TargetWith OperandWith PieceWith ClassWith FunctionWith MemberWith MethodWith ElemWith ParamsWith Argument Entry Expr Key Suffix Prop Target Operand Piece Class Function Member Method Elem Params (λ e. e.0) (λ e. e.0) (λ e. e.0) (λ e. e.0) (λ e. e.0) (λ e. e.0) (λ e. e.0) (λ e. e.0) (λ e. e.0) (λ e. e.0) (λ e. e.0) (λ e. e.0) (λ e. e.0) (λ e. e.0) (λ e. e.0) y

  abbrev pub made_argument : Argument-F Argument Entry Expr Key Suffix Prop Target Operand Piece Class Function Member Method Elem Params → Argument-F (Making CoreArgument) (Making CoreEntry) Expression MadeKey Suffixed MadeProp MadeTarget MadeOperand (Making CorePiece) MadeClass MadeFunction MadeMember MadeMethod MadeElem MadeParams
  made_argument y = map-Argument Argument Entry Expr Key Suffix Prop Target Operand Piece Class Function Member Method Elem Params (Making CoreArgument) (Making CoreEntry) Expression MadeKey Suffixed MadeProp MadeTarget MadeOperand (Making CorePiece) MadeClass MadeFunction MadeMember MadeMethod MadeElem MadeParams (argument_of by_scopes i) (entry_of by_scopes i) (expression by_scopes i) (key_of by_scopes i) (suffix_of by_scopes i) (prop_of by_scopes i) (target_of by_scopes i) (operand_of by_scopes i) (piece_of by_scopes i) (class_of by_scopes i) (function_of by_scopes i) (member_of by_scopes i) (method_of by_scopes i) (elem_of by_scopes i) (params_of by_scopes i) y

  abbrev pub used_argument : Argument-F Argument Entry Expr Key Suffix Prop Target Operand Piece Class Function Member Method Elem Params → Argument-F (Making CoreArgument) (Making CoreEntry) Expression MadeKey Suffixed MadeProp MadeTarget MadeOperand (Making CorePiece) MadeClass MadeFunction MadeMember MadeMethod MadeElem MadeParams
  used_argument y = map-Argument Argument Entry Expr Key Suffix Prop Target Operand Piece Class Function Member Method Elem Params (Making CoreArgument) (Making CoreEntry) Expression MadeKey Suffixed MadeProp MadeTarget MadeOperand (Making CorePiece) MadeClass MadeFunction MadeMember MadeMethod MadeElem MadeParams (argument_of by_uses j) (entry_of by_uses j) (expression by_uses j) (key_of by_uses j) (suffix_of by_uses j) (prop_of by_uses j) (target_of by_uses j) (operand_of by_uses j) (piece_of by_uses j) (class_of by_uses j) (function_of by_uses j) (member_of by_uses j) (method_of by_uses j) (elem_of by_uses j) (params_of by_uses j) y

  abbrev pub EntryLayer : Type 0
  EntryLayer = Entry-F ArgumentWith EntryWith ExprWith KeyWith SuffixWith PropWith TargetWith OperandWith PieceWith ClassWith FunctionWith MemberWith MethodWith ElemWith ParamsWith

  abbrev pub bare_entry : EntryLayer → Entry-F Argument Entry Expr Key Suffix Prop Target Operand Piece Class Function Member Method Elem Params
  bare_entry y = map-Entry ArgumentWith EntryWith ExprWith KeyWith SuffixWith PropWith TargetWith OperandWith PieceWith ClassWith FunctionWith MemberWith MethodWith ElemWith ParamsWith Argument Entry Expr Key Suffix Prop Target Operand Piece Class Function Member Method Elem Params (λ e. e.0) (λ e. e.0) (λ e. e.0) (λ e. e.0) (λ e. e.0) (λ e. e.0) (λ e. e.0) (λ e. e.0) (λ e. e.0) (λ e. e.0) (λ e. e.0) (λ e. e.0) (λ e. e.0) (λ e. e.0) (λ e. e.0) y

  abbrev pub made_entry : Entry-F Argument Entry Expr Key Suffix Prop Target Operand Piece Class Function Member Method Elem Params → Entry-F (Making CoreArgument) (Making CoreEntry) Expression MadeKey Suffixed MadeProp MadeTarget MadeOperand (Making CorePiece) MadeClass MadeFunction MadeMember MadeMethod MadeElem MadeParams
  made_entry y = map-Entry Argument Entry Expr Key Suffix Prop Target Operand Piece Class Function Member Method Elem Params (Making CoreArgument) (Making CoreEntry) Expression MadeKey Suffixed MadeProp MadeTarget MadeOperand (Making CorePiece) MadeClass MadeFunction MadeMember MadeMethod MadeElem MadeParams (argument_of by_scopes i) (entry_of by_scopes i) (expression by_scopes i) (key_of by_scopes i) (suffix_of by_scopes i) (prop_of by_scopes i) (target_of by_scopes i) (operand_of by_scopes i) (piece_of by_scopes i) (class_of by_scopes i) (function_of by_scopes i) (member_of by_scopes i) (method_of by_scopes i) (elem_of by_scopes i) (params_of by_scopes i) y

  abbrev pub used_entry : Entry-F Argument Entry Expr Key Suffix Prop Target Operand Piece Class Function Member Method Elem Params → Entry-F (Making CoreArgument) (Making CoreEntry) Expression MadeKey Suffixed MadeProp MadeTarget MadeOperand (Making CorePiece) MadeClass MadeFunction MadeMember MadeMethod MadeElem MadeParams
  used_entry y = map-Entry Argument Entry Expr Key Suffix Prop Target Operand Piece Class Function Member Method Elem Params (Making CoreArgument) (Making CoreEntry) Expression MadeKey Suffixed MadeProp MadeTarget MadeOperand (Making CorePiece) MadeClass MadeFunction MadeMember MadeMethod MadeElem MadeParams (argument_of by_uses j) (entry_of by_uses j) (expression by_uses j) (key_of by_uses j) (suffix_of by_uses j) (prop_of by_uses j) (target_of by_uses j) (operand_of by_uses j) (piece_of by_uses j) (class_of by_uses j) (function_of by_uses j) (member_of by_uses j) (method_of by_uses j) (elem_of by_uses j) (params_of by_uses j) y

  abbrev pub ExprLayer : Type 0
  ExprLayer = Expr-F ArgumentWith EntryWith ExprWith KeyWith SuffixWith PropWith TargetWith OperandWith PieceWith ClassWith FunctionWith MemberWith MethodWith ElemWith ParamsWith

  abbrev pub bare_expr : ExprLayer → Expr-F Argument Entry Expr Key Suffix Prop Target Operand Piece Class Function Member Method Elem Params
  bare_expr y = map-Expr ArgumentWith EntryWith ExprWith KeyWith SuffixWith PropWith TargetWith OperandWith PieceWith ClassWith FunctionWith MemberWith MethodWith ElemWith ParamsWith Argument Entry Expr Key Suffix Prop Target Operand Piece Class Function Member Method Elem Params (λ e. e.0) (λ e. e.0) (λ e. e.0) (λ e. e.0) (λ e. e.0) (λ e. e.0) (λ e. e.0) (λ e. e.0) (λ e. e.0) (λ e. e.0) (λ e. e.0) (λ e. e.0) (λ e. e.0) (λ e. e.0) (λ e. e.0) y

  abbrev pub made_expr : Expr-F Argument Entry Expr Key Suffix Prop Target Operand Piece Class Function Member Method Elem Params → Expr-F (Making CoreArgument) (Making CoreEntry) Expression MadeKey Suffixed MadeProp MadeTarget MadeOperand (Making CorePiece) MadeClass MadeFunction MadeMember MadeMethod MadeElem MadeParams
  made_expr y = map-Expr Argument Entry Expr Key Suffix Prop Target Operand Piece Class Function Member Method Elem Params (Making CoreArgument) (Making CoreEntry) Expression MadeKey Suffixed MadeProp MadeTarget MadeOperand (Making CorePiece) MadeClass MadeFunction MadeMember MadeMethod MadeElem MadeParams (argument_of by_scopes i) (entry_of by_scopes i) (expression by_scopes i) (key_of by_scopes i) (suffix_of by_scopes i) (prop_of by_scopes i) (target_of by_scopes i) (operand_of by_scopes i) (piece_of by_scopes i) (class_of by_scopes i) (function_of by_scopes i) (member_of by_scopes i) (method_of by_scopes i) (elem_of by_scopes i) (params_of by_scopes i) y

  abbrev pub used_expr : Expr-F Argument Entry Expr Key Suffix Prop Target Operand Piece Class Function Member Method Elem Params → Expr-F (Making CoreArgument) (Making CoreEntry) Expression MadeKey Suffixed MadeProp MadeTarget MadeOperand (Making CorePiece) MadeClass MadeFunction MadeMember MadeMethod MadeElem MadeParams
  used_expr y = map-Expr Argument Entry Expr Key Suffix Prop Target Operand Piece Class Function Member Method Elem Params (Making CoreArgument) (Making CoreEntry) Expression MadeKey Suffixed MadeProp MadeTarget MadeOperand (Making CorePiece) MadeClass MadeFunction MadeMember MadeMethod MadeElem MadeParams (argument_of by_uses j) (entry_of by_uses j) (expression by_uses j) (key_of by_uses j) (suffix_of by_uses j) (prop_of by_uses j) (target_of by_uses j) (operand_of by_uses j) (piece_of by_uses j) (class_of by_uses j) (function_of by_uses j) (member_of by_uses j) (method_of by_uses j) (elem_of by_uses j) (params_of by_uses j) y

  abbrev pub KeyLayer : Type 0
  KeyLayer = Key-F ArgumentWith EntryWith ExprWith KeyWith SuffixWith PropWith TargetWith OperandWith PieceWith ClassWith FunctionWith MemberWith MethodWith ElemWith ParamsWith

  abbrev pub bare_key : KeyLayer → Key-F Argument Entry Expr Key Suffix Prop Target Operand Piece Class Function Member Method Elem Params
  bare_key y = map-Key ArgumentWith EntryWith ExprWith KeyWith SuffixWith PropWith TargetWith OperandWith PieceWith ClassWith FunctionWith MemberWith MethodWith ElemWith ParamsWith Argument Entry Expr Key Suffix Prop Target Operand Piece Class Function Member Method Elem Params (λ e. e.0) (λ e. e.0) (λ e. e.0) (λ e. e.0) (λ e. e.0) (λ e. e.0) (λ e. e.0) (λ e. e.0) (λ e. e.0) (λ e. e.0) (λ e. e.0) (λ e. e.0) (λ e. e.0) (λ e. e.0) (λ e. e.0) y

  abbrev pub made_key : Key-F Argument Entry Expr Key Suffix Prop Target Operand Piece Class Function Member Method Elem Params → Key-F (Making CoreArgument) (Making CoreEntry) Expression MadeKey Suffixed MadeProp MadeTarget MadeOperand (Making CorePiece) MadeClass MadeFunction MadeMember MadeMethod MadeElem MadeParams
  made_key y = map-Key Argument Entry Expr Key Suffix Prop Target Operand Piece Class Function Member Method Elem Params (Making CoreArgument) (Making CoreEntry) Expression MadeKey Suffixed MadeProp MadeTarget MadeOperand (Making CorePiece) MadeClass MadeFunction MadeMember MadeMethod MadeElem MadeParams (argument_of by_scopes i) (entry_of by_scopes i) (expression by_scopes i) (key_of by_scopes i) (suffix_of by_scopes i) (prop_of by_scopes i) (target_of by_scopes i) (operand_of by_scopes i) (piece_of by_scopes i) (class_of by_scopes i) (function_of by_scopes i) (member_of by_scopes i) (method_of by_scopes i) (elem_of by_scopes i) (params_of by_scopes i) y

  abbrev pub used_key : Key-F Argument Entry Expr Key Suffix Prop Target Operand Piece Class Function Member Method Elem Params → Key-F (Making CoreArgument) (Making CoreEntry) Expression MadeKey Suffixed MadeProp MadeTarget MadeOperand (Making CorePiece) MadeClass MadeFunction MadeMember MadeMethod MadeElem MadeParams
  used_key y = map-Key Argument Entry Expr Key Suffix Prop Target Operand Piece Class Function Member Method Elem Params (Making CoreArgument) (Making CoreEntry) Expression MadeKey Suffixed MadeProp MadeTarget MadeOperand (Making CorePiece) MadeClass MadeFunction MadeMember MadeMethod MadeElem MadeParams (argument_of by_uses j) (entry_of by_uses j) (expression by_uses j) (key_of by_uses j) (suffix_of by_uses j) (prop_of by_uses j) (target_of by_uses j) (operand_of by_uses j) (piece_of by_uses j) (class_of by_uses j) (function_of by_uses j) (member_of by_uses j) (method_of by_uses j) (elem_of by_uses j) (params_of by_uses j) y

  abbrev pub SuffixLayer : Type 0
  SuffixLayer = Suffix-F ArgumentWith EntryWith ExprWith KeyWith SuffixWith PropWith TargetWith OperandWith PieceWith ClassWith FunctionWith MemberWith MethodWith ElemWith ParamsWith

  abbrev pub bare_suffix : SuffixLayer → Suffix-F Argument Entry Expr Key Suffix Prop Target Operand Piece Class Function Member Method Elem Params
  bare_suffix y = map-Suffix ArgumentWith EntryWith ExprWith KeyWith SuffixWith PropWith TargetWith OperandWith PieceWith ClassWith FunctionWith MemberWith MethodWith ElemWith ParamsWith Argument Entry Expr Key Suffix Prop Target Operand Piece Class Function Member Method Elem Params (λ e. e.0) (λ e. e.0) (λ e. e.0) (λ e. e.0) (λ e. e.0) (λ e. e.0) (λ e. e.0) (λ e. e.0) (λ e. e.0) (λ e. e.0) (λ e. e.0) (λ e. e.0) (λ e. e.0) (λ e. e.0) (λ e. e.0) y

  abbrev pub made_suffix : Suffix-F Argument Entry Expr Key Suffix Prop Target Operand Piece Class Function Member Method Elem Params → Suffix-F (Making CoreArgument) (Making CoreEntry) Expression MadeKey Suffixed MadeProp MadeTarget MadeOperand (Making CorePiece) MadeClass MadeFunction MadeMember MadeMethod MadeElem MadeParams
  made_suffix y = map-Suffix Argument Entry Expr Key Suffix Prop Target Operand Piece Class Function Member Method Elem Params (Making CoreArgument) (Making CoreEntry) Expression MadeKey Suffixed MadeProp MadeTarget MadeOperand (Making CorePiece) MadeClass MadeFunction MadeMember MadeMethod MadeElem MadeParams (argument_of by_scopes i) (entry_of by_scopes i) (expression by_scopes i) (key_of by_scopes i) (suffix_of by_scopes i) (prop_of by_scopes i) (target_of by_scopes i) (operand_of by_scopes i) (piece_of by_scopes i) (class_of by_scopes i) (function_of by_scopes i) (member_of by_scopes i) (method_of by_scopes i) (elem_of by_scopes i) (params_of by_scopes i) y

  abbrev pub used_suffix : Suffix-F Argument Entry Expr Key Suffix Prop Target Operand Piece Class Function Member Method Elem Params → Suffix-F (Making CoreArgument) (Making CoreEntry) Expression MadeKey Suffixed MadeProp MadeTarget MadeOperand (Making CorePiece) MadeClass MadeFunction MadeMember MadeMethod MadeElem MadeParams
  used_suffix y = map-Suffix Argument Entry Expr Key Suffix Prop Target Operand Piece Class Function Member Method Elem Params (Making CoreArgument) (Making CoreEntry) Expression MadeKey Suffixed MadeProp MadeTarget MadeOperand (Making CorePiece) MadeClass MadeFunction MadeMember MadeMethod MadeElem MadeParams (argument_of by_uses j) (entry_of by_uses j) (expression by_uses j) (key_of by_uses j) (suffix_of by_uses j) (prop_of by_uses j) (target_of by_uses j) (operand_of by_uses j) (piece_of by_uses j) (class_of by_uses j) (function_of by_uses j) (member_of by_uses j) (method_of by_uses j) (elem_of by_uses j) (params_of by_uses j) y

  abbrev pub PropLayer : Type 0
  PropLayer = Prop-F ArgumentWith EntryWith ExprWith KeyWith SuffixWith PropWith TargetWith OperandWith PieceWith ClassWith FunctionWith MemberWith MethodWith ElemWith ParamsWith

  abbrev pub bare_prop : PropLayer → Prop-F Argument Entry Expr Key Suffix Prop Target Operand Piece Class Function Member Method Elem Params
  bare_prop y = map-Prop ArgumentWith EntryWith ExprWith KeyWith SuffixWith PropWith TargetWith OperandWith PieceWith ClassWith FunctionWith MemberWith MethodWith ElemWith ParamsWith Argument Entry Expr Key Suffix Prop Target Operand Piece Class Function Member Method Elem Params (λ e. e.0) (λ e. e.0) (λ e. e.0) (λ e. e.0) (λ e. e.0) (λ e. e.0) (λ e. e.0) (λ e. e.0) (λ e. e.0) (λ e. e.0) (λ e. e.0) (λ e. e.0) (λ e. e.0) (λ e. e.0) (λ e. e.0) y

  abbrev pub made_prop : Prop-F Argument Entry Expr Key Suffix Prop Target Operand Piece Class Function Member Method Elem Params → Prop-F (Making CoreArgument) (Making CoreEntry) Expression MadeKey Suffixed MadeProp MadeTarget MadeOperand (Making CorePiece) MadeClass MadeFunction MadeMember MadeMethod MadeElem MadeParams
  made_prop y = map-Prop Argument Entry Expr Key Suffix Prop Target Operand Piece Class Function Member Method Elem Params (Making CoreArgument) (Making CoreEntry) Expression MadeKey Suffixed MadeProp MadeTarget MadeOperand (Making CorePiece) MadeClass MadeFunction MadeMember MadeMethod MadeElem MadeParams (argument_of by_scopes i) (entry_of by_scopes i) (expression by_scopes i) (key_of by_scopes i) (suffix_of by_scopes i) (prop_of by_scopes i) (target_of by_scopes i) (operand_of by_scopes i) (piece_of by_scopes i) (class_of by_scopes i) (function_of by_scopes i) (member_of by_scopes i) (method_of by_scopes i) (elem_of by_scopes i) (params_of by_scopes i) y

  abbrev pub used_prop : Prop-F Argument Entry Expr Key Suffix Prop Target Operand Piece Class Function Member Method Elem Params → Prop-F (Making CoreArgument) (Making CoreEntry) Expression MadeKey Suffixed MadeProp MadeTarget MadeOperand (Making CorePiece) MadeClass MadeFunction MadeMember MadeMethod MadeElem MadeParams
  used_prop y = map-Prop Argument Entry Expr Key Suffix Prop Target Operand Piece Class Function Member Method Elem Params (Making CoreArgument) (Making CoreEntry) Expression MadeKey Suffixed MadeProp MadeTarget MadeOperand (Making CorePiece) MadeClass MadeFunction MadeMember MadeMethod MadeElem MadeParams (argument_of by_uses j) (entry_of by_uses j) (expression by_uses j) (key_of by_uses j) (suffix_of by_uses j) (prop_of by_uses j) (target_of by_uses j) (operand_of by_uses j) (piece_of by_uses j) (class_of by_uses j) (function_of by_uses j) (member_of by_uses j) (method_of by_uses j) (elem_of by_uses j) (params_of by_uses j) y

  abbrev pub TargetLayer : Type 0
  TargetLayer = Target-F ArgumentWith EntryWith ExprWith KeyWith SuffixWith PropWith TargetWith OperandWith PieceWith ClassWith FunctionWith MemberWith MethodWith ElemWith ParamsWith

  abbrev pub bare_target : TargetLayer → Target-F Argument Entry Expr Key Suffix Prop Target Operand Piece Class Function Member Method Elem Params
  bare_target y = map-Target ArgumentWith EntryWith ExprWith KeyWith SuffixWith PropWith TargetWith OperandWith PieceWith ClassWith FunctionWith MemberWith MethodWith ElemWith ParamsWith Argument Entry Expr Key Suffix Prop Target Operand Piece Class Function Member Method Elem Params (λ e. e.0) (λ e. e.0) (λ e. e.0) (λ e. e.0) (λ e. e.0) (λ e. e.0) (λ e. e.0) (λ e. e.0) (λ e. e.0) (λ e. e.0) (λ e. e.0) (λ e. e.0) (λ e. e.0) (λ e. e.0) (λ e. e.0) y

  abbrev pub made_target : Target-F Argument Entry Expr Key Suffix Prop Target Operand Piece Class Function Member Method Elem Params → Target-F (Making CoreArgument) (Making CoreEntry) Expression MadeKey Suffixed MadeProp MadeTarget MadeOperand (Making CorePiece) MadeClass MadeFunction MadeMember MadeMethod MadeElem MadeParams
  made_target y = map-Target Argument Entry Expr Key Suffix Prop Target Operand Piece Class Function Member Method Elem Params (Making CoreArgument) (Making CoreEntry) Expression MadeKey Suffixed MadeProp MadeTarget MadeOperand (Making CorePiece) MadeClass MadeFunction MadeMember MadeMethod MadeElem MadeParams (argument_of by_scopes i) (entry_of by_scopes i) (expression by_scopes i) (key_of by_scopes i) (suffix_of by_scopes i) (prop_of by_scopes i) (target_of by_scopes i) (operand_of by_scopes i) (piece_of by_scopes i) (class_of by_scopes i) (function_of by_scopes i) (member_of by_scopes i) (method_of by_scopes i) (elem_of by_scopes i) (params_of by_scopes i) y

  abbrev pub used_target : Target-F Argument Entry Expr Key Suffix Prop Target Operand Piece Class Function Member Method Elem Params → Target-F (Making CoreArgument) (Making CoreEntry) Expression MadeKey Suffixed MadeProp MadeTarget MadeOperand (Making CorePiece) MadeClass MadeFunction MadeMember MadeMethod MadeElem MadeParams
  used_target y = map-Target Argument Entry Expr Key Suffix Prop Target Operand Piece Class Function Member Method Elem Params (Making CoreArgument) (Making CoreEntry) Expression MadeKey Suffixed MadeProp MadeTarget MadeOperand (Making CorePiece) MadeClass MadeFunction MadeMember MadeMethod MadeElem MadeParams (argument_of by_uses j) (entry_of by_uses j) (expression by_uses j) (key_of by_uses j) (suffix_of by_uses j) (prop_of by_uses j) (target_of by_uses j) (operand_of by_uses j) (piece_of by_uses j) (class_of by_uses j) (function_of by_uses j) (member_of by_uses j) (method_of by_uses j) (elem_of by_uses j) (params_of by_uses j) y

  abbrev pub OperandLayer : Type 0
  OperandLayer = Operand-F ArgumentWith EntryWith ExprWith KeyWith SuffixWith PropWith TargetWith OperandWith PieceWith ClassWith FunctionWith MemberWith MethodWith ElemWith ParamsWith

  abbrev pub bare_operand : OperandLayer → Operand-F Argument Entry Expr Key Suffix Prop Target Operand Piece Class Function Member Method Elem Params
  bare_operand y = map-Operand ArgumentWith EntryWith ExprWith KeyWith SuffixWith PropWith TargetWith OperandWith PieceWith ClassWith FunctionWith MemberWith MethodWith ElemWith ParamsWith Argument Entry Expr Key Suffix Prop Target Operand Piece Class Function Member Method Elem Params (λ e. e.0) (λ e. e.0) (λ e. e.0) (λ e. e.0) (λ e. e.0) (λ e. e.0) (λ e. e.0) (λ e. e.0) (λ e. e.0) (λ e. e.0) (λ e. e.0) (λ e. e.0) (λ e. e.0) (λ e. e.0) (λ e. e.0) y

  abbrev pub made_operand : Operand-F Argument Entry Expr Key Suffix Prop Target Operand Piece Class Function Member Method Elem Params → Operand-F (Making CoreArgument) (Making CoreEntry) Expression MadeKey Suffixed MadeProp MadeTarget MadeOperand (Making CorePiece) MadeClass MadeFunction MadeMember MadeMethod MadeElem MadeParams
  made_operand y = map-Operand Argument Entry Expr Key Suffix Prop Target Operand Piece Class Function Member Method Elem Params (Making CoreArgument) (Making CoreEntry) Expression MadeKey Suffixed MadeProp MadeTarget MadeOperand (Making CorePiece) MadeClass MadeFunction MadeMember MadeMethod MadeElem MadeParams (argument_of by_scopes i) (entry_of by_scopes i) (expression by_scopes i) (key_of by_scopes i) (suffix_of by_scopes i) (prop_of by_scopes i) (target_of by_scopes i) (operand_of by_scopes i) (piece_of by_scopes i) (class_of by_scopes i) (function_of by_scopes i) (member_of by_scopes i) (method_of by_scopes i) (elem_of by_scopes i) (params_of by_scopes i) y

  abbrev pub used_operand : Operand-F Argument Entry Expr Key Suffix Prop Target Operand Piece Class Function Member Method Elem Params → Operand-F (Making CoreArgument) (Making CoreEntry) Expression MadeKey Suffixed MadeProp MadeTarget MadeOperand (Making CorePiece) MadeClass MadeFunction MadeMember MadeMethod MadeElem MadeParams
  used_operand y = map-Operand Argument Entry Expr Key Suffix Prop Target Operand Piece Class Function Member Method Elem Params (Making CoreArgument) (Making CoreEntry) Expression MadeKey Suffixed MadeProp MadeTarget MadeOperand (Making CorePiece) MadeClass MadeFunction MadeMember MadeMethod MadeElem MadeParams (argument_of by_uses j) (entry_of by_uses j) (expression by_uses j) (key_of by_uses j) (suffix_of by_uses j) (prop_of by_uses j) (target_of by_uses j) (operand_of by_uses j) (piece_of by_uses j) (class_of by_uses j) (function_of by_uses j) (member_of by_uses j) (method_of by_uses j) (elem_of by_uses j) (params_of by_uses j) y

  abbrev pub PieceLayer : Type 0
  PieceLayer = Piece-F ArgumentWith EntryWith ExprWith KeyWith SuffixWith PropWith TargetWith OperandWith PieceWith ClassWith FunctionWith MemberWith MethodWith ElemWith ParamsWith

  abbrev pub bare_piece : PieceLayer → Piece-F Argument Entry Expr Key Suffix Prop Target Operand Piece Class Function Member Method Elem Params
  bare_piece y = map-Piece ArgumentWith EntryWith ExprWith KeyWith SuffixWith PropWith TargetWith OperandWith PieceWith ClassWith FunctionWith MemberWith MethodWith ElemWith ParamsWith Argument Entry Expr Key Suffix Prop Target Operand Piece Class Function Member Method Elem Params (λ e. e.0) (λ e. e.0) (λ e. e.0) (λ e. e.0) (λ e. e.0) (λ e. e.0) (λ e. e.0) (λ e. e.0) (λ e. e.0) (λ e. e.0) (λ e. e.0) (λ e. e.0) (λ e. e.0) (λ e. e.0) (λ e. e.0) y

  abbrev pub made_piece : Piece-F Argument Entry Expr Key Suffix Prop Target Operand Piece Class Function Member Method Elem Params → Piece-F (Making CoreArgument) (Making CoreEntry) Expression MadeKey Suffixed MadeProp MadeTarget MadeOperand (Making CorePiece) MadeClass MadeFunction MadeMember MadeMethod MadeElem MadeParams
  made_piece y = map-Piece Argument Entry Expr Key Suffix Prop Target Operand Piece Class Function Member Method Elem Params (Making CoreArgument) (Making CoreEntry) Expression MadeKey Suffixed MadeProp MadeTarget MadeOperand (Making CorePiece) MadeClass MadeFunction MadeMember MadeMethod MadeElem MadeParams (argument_of by_scopes i) (entry_of by_scopes i) (expression by_scopes i) (key_of by_scopes i) (suffix_of by_scopes i) (prop_of by_scopes i) (target_of by_scopes i) (operand_of by_scopes i) (piece_of by_scopes i) (class_of by_scopes i) (function_of by_scopes i) (member_of by_scopes i) (method_of by_scopes i) (elem_of by_scopes i) (params_of by_scopes i) y

  abbrev pub used_piece : Piece-F Argument Entry Expr Key Suffix Prop Target Operand Piece Class Function Member Method Elem Params → Piece-F (Making CoreArgument) (Making CoreEntry) Expression MadeKey Suffixed MadeProp MadeTarget MadeOperand (Making CorePiece) MadeClass MadeFunction MadeMember MadeMethod MadeElem MadeParams
  used_piece y = map-Piece Argument Entry Expr Key Suffix Prop Target Operand Piece Class Function Member Method Elem Params (Making CoreArgument) (Making CoreEntry) Expression MadeKey Suffixed MadeProp MadeTarget MadeOperand (Making CorePiece) MadeClass MadeFunction MadeMember MadeMethod MadeElem MadeParams (argument_of by_uses j) (entry_of by_uses j) (expression by_uses j) (key_of by_uses j) (suffix_of by_uses j) (prop_of by_uses j) (target_of by_uses j) (operand_of by_uses j) (piece_of by_uses j) (class_of by_uses j) (function_of by_uses j) (member_of by_uses j) (method_of by_uses j) (elem_of by_uses j) (params_of by_uses j) y

  abbrev pub ClassLayer : Type 0
  ClassLayer = Class-F ArgumentWith EntryWith ExprWith KeyWith SuffixWith PropWith TargetWith OperandWith PieceWith ClassWith FunctionWith MemberWith MethodWith ElemWith ParamsWith

  abbrev pub bare_class : ClassLayer → Class-F Argument Entry Expr Key Suffix Prop Target Operand Piece Class Function Member Method Elem Params
  bare_class y = map-Class ArgumentWith EntryWith ExprWith KeyWith SuffixWith PropWith TargetWith OperandWith PieceWith ClassWith FunctionWith MemberWith MethodWith ElemWith ParamsWith Argument Entry Expr Key Suffix Prop Target Operand Piece Class Function Member Method Elem Params (λ e. e.0) (λ e. e.0) (λ e. e.0) (λ e. e.0) (λ e. e.0) (λ e. e.0) (λ e. e.0) (λ e. e.0) (λ e. e.0) (λ e. e.0) (λ e. e.0) (λ e. e.0) (λ e. e.0) (λ e. e.0) (λ e. e.0) y

  abbrev pub made_class : Class-F Argument Entry Expr Key Suffix Prop Target Operand Piece Class Function Member Method Elem Params → Class-F (Making CoreArgument) (Making CoreEntry) Expression MadeKey Suffixed MadeProp MadeTarget MadeOperand (Making CorePiece) MadeClass MadeFunction MadeMember MadeMethod MadeElem MadeParams
  made_class y = map-Class Argument Entry Expr Key Suffix Prop Target Operand Piece Class Function Member Method Elem Params (Making CoreArgument) (Making CoreEntry) Expression MadeKey Suffixed MadeProp MadeTarget MadeOperand (Making CorePiece) MadeClass MadeFunction MadeMember MadeMethod MadeElem MadeParams (argument_of by_scopes i) (entry_of by_scopes i) (expression by_scopes i) (key_of by_scopes i) (suffix_of by_scopes i) (prop_of by_scopes i) (target_of by_scopes i) (operand_of by_scopes i) (piece_of by_scopes i) (class_of by_scopes i) (function_of by_scopes i) (member_of by_scopes i) (method_of by_scopes i) (elem_of by_scopes i) (params_of by_scopes i) y

  abbrev pub used_class : Class-F Argument Entry Expr Key Suffix Prop Target Operand Piece Class Function Member Method Elem Params → Class-F (Making CoreArgument) (Making CoreEntry) Expression MadeKey Suffixed MadeProp MadeTarget MadeOperand (Making CorePiece) MadeClass MadeFunction MadeMember MadeMethod MadeElem MadeParams
  used_class y = map-Class Argument Entry Expr Key Suffix Prop Target Operand Piece Class Function Member Method Elem Params (Making CoreArgument) (Making CoreEntry) Expression MadeKey Suffixed MadeProp MadeTarget MadeOperand (Making CorePiece) MadeClass MadeFunction MadeMember MadeMethod MadeElem MadeParams (argument_of by_uses j) (entry_of by_uses j) (expression by_uses j) (key_of by_uses j) (suffix_of by_uses j) (prop_of by_uses j) (target_of by_uses j) (operand_of by_uses j) (piece_of by_uses j) (class_of by_uses j) (function_of by_uses j) (member_of by_uses j) (method_of by_uses j) (elem_of by_uses j) (params_of by_uses j) y

  abbrev pub FunctionLayer : Type 0
  FunctionLayer = Function-F ArgumentWith EntryWith ExprWith KeyWith SuffixWith PropWith TargetWith OperandWith PieceWith ClassWith FunctionWith MemberWith MethodWith ElemWith ParamsWith

  abbrev pub bare_function : FunctionLayer → Function-F Argument Entry Expr Key Suffix Prop Target Operand Piece Class Function Member Method Elem Params
  bare_function y = map-Function ArgumentWith EntryWith ExprWith KeyWith SuffixWith PropWith TargetWith OperandWith PieceWith ClassWith FunctionWith MemberWith MethodWith ElemWith ParamsWith Argument Entry Expr Key Suffix Prop Target Operand Piece Class Function Member Method Elem Params (λ e. e.0) (λ e. e.0) (λ e. e.0) (λ e. e.0) (λ e. e.0) (λ e. e.0) (λ e. e.0) (λ e. e.0) (λ e. e.0) (λ e. e.0) (λ e. e.0) (λ e. e.0) (λ e. e.0) (λ e. e.0) (λ e. e.0) y

  abbrev pub made_function : Function-F Argument Entry Expr Key Suffix Prop Target Operand Piece Class Function Member Method Elem Params → Function-F (Making CoreArgument) (Making CoreEntry) Expression MadeKey Suffixed MadeProp MadeTarget MadeOperand (Making CorePiece) MadeClass MadeFunction MadeMember MadeMethod MadeElem MadeParams
  made_function y = map-Function Argument Entry Expr Key Suffix Prop Target Operand Piece Class Function Member Method Elem Params (Making CoreArgument) (Making CoreEntry) Expression MadeKey Suffixed MadeProp MadeTarget MadeOperand (Making CorePiece) MadeClass MadeFunction MadeMember MadeMethod MadeElem MadeParams (argument_of by_scopes i) (entry_of by_scopes i) (expression by_scopes i) (key_of by_scopes i) (suffix_of by_scopes i) (prop_of by_scopes i) (target_of by_scopes i) (operand_of by_scopes i) (piece_of by_scopes i) (class_of by_scopes i) (function_of by_scopes i) (member_of by_scopes i) (method_of by_scopes i) (elem_of by_scopes i) (params_of by_scopes i) y

  abbrev pub used_function : Function-F Argument Entry Expr Key Suffix Prop Target Operand Piece Class Function Member Method Elem Params → Function-F (Making CoreArgument) (Making CoreEntry) Expression MadeKey Suffixed MadeProp MadeTarget MadeOperand (Making CorePiece) MadeClass MadeFunction MadeMember MadeMethod MadeElem MadeParams
  used_function y = map-Function Argument Entry Expr Key Suffix Prop Target Operand Piece Class Function Member Method Elem Params (Making CoreArgument) (Making CoreEntry) Expression MadeKey Suffixed MadeProp MadeTarget MadeOperand (Making CorePiece) MadeClass MadeFunction MadeMember MadeMethod MadeElem MadeParams (argument_of by_uses j) (entry_of by_uses j) (expression by_uses j) (key_of by_uses j) (suffix_of by_uses j) (prop_of by_uses j) (target_of by_uses j) (operand_of by_uses j) (piece_of by_uses j) (class_of by_uses j) (function_of by_uses j) (member_of by_uses j) (method_of by_uses j) (elem_of by_uses j) (params_of by_uses j) y

  abbrev pub MemberLayer : Type 0
  MemberLayer = Member-F ArgumentWith EntryWith ExprWith KeyWith SuffixWith PropWith TargetWith OperandWith PieceWith ClassWith FunctionWith MemberWith MethodWith ElemWith ParamsWith

  abbrev pub bare_member : MemberLayer → Member-F Argument Entry Expr Key Suffix Prop Target Operand Piece Class Function Member Method Elem Params
  bare_member y = map-Member ArgumentWith EntryWith ExprWith KeyWith SuffixWith PropWith TargetWith OperandWith PieceWith ClassWith FunctionWith MemberWith MethodWith ElemWith ParamsWith Argument Entry Expr Key Suffix Prop Target Operand Piece Class Function Member Method Elem Params (λ e. e.0) (λ e. e.0) (λ e. e.0) (λ e. e.0) (λ e. e.0) (λ e. e.0) (λ e. e.0) (λ e. e.0) (λ e. e.0) (λ e. e.0) (λ e. e.0) (λ e. e.0) (λ e. e.0) (λ e. e.0) (λ e. e.0) y

  abbrev pub made_member : Member-F Argument Entry Expr Key Suffix Prop Target Operand Piece Class Function Member Method Elem Params → Member-F (Making CoreArgument) (Making CoreEntry) Expression MadeKey Suffixed MadeProp MadeTarget MadeOperand (Making CorePiece) MadeClass MadeFunction MadeMember MadeMethod MadeElem MadeParams
  made_member y = map-Member Argument Entry Expr Key Suffix Prop Target Operand Piece Class Function Member Method Elem Params (Making CoreArgument) (Making CoreEntry) Expression MadeKey Suffixed MadeProp MadeTarget MadeOperand (Making CorePiece) MadeClass MadeFunction MadeMember MadeMethod MadeElem MadeParams (argument_of by_scopes i) (entry_of by_scopes i) (expression by_scopes i) (key_of by_scopes i) (suffix_of by_scopes i) (prop_of by_scopes i) (target_of by_scopes i) (operand_of by_scopes i) (piece_of by_scopes i) (class_of by_scopes i) (function_of by_scopes i) (member_of by_scopes i) (method_of by_scopes i) (elem_of by_scopes i) (params_of by_scopes i) y

  abbrev pub used_member : Member-F Argument Entry Expr Key Suffix Prop Target Operand Piece Class Function Member Method Elem Params → Member-F (Making CoreArgument) (Making CoreEntry) Expression MadeKey Suffixed MadeProp MadeTarget MadeOperand (Making CorePiece) MadeClass MadeFunction MadeMember MadeMethod MadeElem MadeParams
  used_member y = map-Member Argument Entry Expr Key Suffix Prop Target Operand Piece Class Function Member Method Elem Params (Making CoreArgument) (Making CoreEntry) Expression MadeKey Suffixed MadeProp MadeTarget MadeOperand (Making CorePiece) MadeClass MadeFunction MadeMember MadeMethod MadeElem MadeParams (argument_of by_uses j) (entry_of by_uses j) (expression by_uses j) (key_of by_uses j) (suffix_of by_uses j) (prop_of by_uses j) (target_of by_uses j) (operand_of by_uses j) (piece_of by_uses j) (class_of by_uses j) (function_of by_uses j) (member_of by_uses j) (method_of by_uses j) (elem_of by_uses j) (params_of by_uses j) y

  abbrev pub MethodLayer : Type 0
  MethodLayer = Method-F ArgumentWith EntryWith ExprWith KeyWith SuffixWith PropWith TargetWith OperandWith PieceWith ClassWith FunctionWith MemberWith MethodWith ElemWith ParamsWith

  abbrev pub bare_method : MethodLayer → Method-F Argument Entry Expr Key Suffix Prop Target Operand Piece Class Function Member Method Elem Params
  bare_method y = map-Method ArgumentWith EntryWith ExprWith KeyWith SuffixWith PropWith TargetWith OperandWith PieceWith ClassWith FunctionWith MemberWith MethodWith ElemWith ParamsWith Argument Entry Expr Key Suffix Prop Target Operand Piece Class Function Member Method Elem Params (λ e. e.0) (λ e. e.0) (λ e. e.0) (λ e. e.0) (λ e. e.0) (λ e. e.0) (λ e. e.0) (λ e. e.0) (λ e. e.0) (λ e. e.0) (λ e. e.0) (λ e. e.0) (λ e. e.0) (λ e. e.0) (λ e. e.0) y

  abbrev pub made_method : Method-F Argument Entry Expr Key Suffix Prop Target Operand Piece Class Function Member Method Elem Params → Method-F (Making CoreArgument) (Making CoreEntry) Expression MadeKey Suffixed MadeProp MadeTarget MadeOperand (Making CorePiece) MadeClass MadeFunction MadeMember MadeMethod MadeElem MadeParams
  made_method y = map-Method Argument Entry Expr Key Suffix Prop Target Operand Piece Class Function Member Method Elem Params (Making CoreArgument) (Making CoreEntry) Expression MadeKey Suffixed MadeProp MadeTarget MadeOperand (Making CorePiece) MadeClass MadeFunction MadeMember MadeMethod MadeElem MadeParams (argument_of by_scopes i) (entry_of by_scopes i) (expression by_scopes i) (key_of by_scopes i) (suffix_of by_scopes i) (prop_of by_scopes i) (target_of by_scopes i) (operand_of by_scopes i) (piece_of by_scopes i) (class_of by_scopes i) (function_of by_scopes i) (member_of by_scopes i) (method_of by_scopes i) (elem_of by_scopes i) (params_of by_scopes i) y

  abbrev pub used_method : Method-F Argument Entry Expr Key Suffix Prop Target Operand Piece Class Function Member Method Elem Params → Method-F (Making CoreArgument) (Making CoreEntry) Expression MadeKey Suffixed MadeProp MadeTarget MadeOperand (Making CorePiece) MadeClass MadeFunction MadeMember MadeMethod MadeElem MadeParams
  used_method y = map-Method Argument Entry Expr Key Suffix Prop Target Operand Piece Class Function Member Method Elem Params (Making CoreArgument) (Making CoreEntry) Expression MadeKey Suffixed MadeProp MadeTarget MadeOperand (Making CorePiece) MadeClass MadeFunction MadeMember MadeMethod MadeElem MadeParams (argument_of by_uses j) (entry_of by_uses j) (expression by_uses j) (key_of by_uses j) (suffix_of by_uses j) (prop_of by_uses j) (target_of by_uses j) (operand_of by_uses j) (piece_of by_uses j) (class_of by_uses j) (function_of by_uses j) (member_of by_uses j) (method_of by_uses j) (elem_of by_uses j) (params_of by_uses j) y

  abbrev pub ElemLayer : Type 0
  ElemLayer = Elem-F ArgumentWith EntryWith ExprWith KeyWith SuffixWith PropWith TargetWith OperandWith PieceWith ClassWith FunctionWith MemberWith MethodWith ElemWith ParamsWith

  abbrev pub bare_elem : ElemLayer → Elem-F Argument Entry Expr Key Suffix Prop Target Operand Piece Class Function Member Method Elem Params
  bare_elem y = map-Elem ArgumentWith EntryWith ExprWith KeyWith SuffixWith PropWith TargetWith OperandWith PieceWith ClassWith FunctionWith MemberWith MethodWith ElemWith ParamsWith Argument Entry Expr Key Suffix Prop Target Operand Piece Class Function Member Method Elem Params (λ e. e.0) (λ e. e.0) (λ e. e.0) (λ e. e.0) (λ e. e.0) (λ e. e.0) (λ e. e.0) (λ e. e.0) (λ e. e.0) (λ e. e.0) (λ e. e.0) (λ e. e.0) (λ e. e.0) (λ e. e.0) (λ e. e.0) y

  abbrev pub made_elem : Elem-F Argument Entry Expr Key Suffix Prop Target Operand Piece Class Function Member Method Elem Params → Elem-F (Making CoreArgument) (Making CoreEntry) Expression MadeKey Suffixed MadeProp MadeTarget MadeOperand (Making CorePiece) MadeClass MadeFunction MadeMember MadeMethod MadeElem MadeParams
  made_elem y = map-Elem Argument Entry Expr Key Suffix Prop Target Operand Piece Class Function Member Method Elem Params (Making CoreArgument) (Making CoreEntry) Expression MadeKey Suffixed MadeProp MadeTarget MadeOperand (Making CorePiece) MadeClass MadeFunction MadeMember MadeMethod MadeElem MadeParams (argument_of by_scopes i) (entry_of by_scopes i) (expression by_scopes i) (key_of by_scopes i) (suffix_of by_scopes i) (prop_of by_scopes i) (target_of by_scopes i) (operand_of by_scopes i) (piece_of by_scopes i) (class_of by_scopes i) (function_of by_scopes i) (member_of by_scopes i) (method_of by_scopes i) (elem_of by_scopes i) (params_of by_scopes i) y

  abbrev pub used_elem : Elem-F Argument Entry Expr Key Suffix Prop Target Operand Piece Class Function Member Method Elem Params → Elem-F (Making CoreArgument) (Making CoreEntry) Expression MadeKey Suffixed MadeProp MadeTarget MadeOperand (Making CorePiece) MadeClass MadeFunction MadeMember MadeMethod MadeElem MadeParams
  used_elem y = map-Elem Argument Entry Expr Key Suffix Prop Target Operand Piece Class Function Member Method Elem Params (Making CoreArgument) (Making CoreEntry) Expression MadeKey Suffixed MadeProp MadeTarget MadeOperand (Making CorePiece) MadeClass MadeFunction MadeMember MadeMethod MadeElem MadeParams (argument_of by_uses j) (entry_of by_uses j) (expression by_uses j) (key_of by_uses j) (suffix_of by_uses j) (prop_of by_uses j) (target_of by_uses j) (operand_of by_uses j) (piece_of by_uses j) (class_of by_uses j) (function_of by_uses j) (member_of by_uses j) (method_of by_uses j) (elem_of by_uses j) (params_of by_uses j) y

  abbrev pub ParamsLayer : Type 0
  ParamsLayer = Params-F ArgumentWith EntryWith ExprWith KeyWith SuffixWith PropWith TargetWith OperandWith PieceWith ClassWith FunctionWith MemberWith MethodWith ElemWith ParamsWith

  abbrev pub bare_params : ParamsLayer → Params-F Argument Entry Expr Key Suffix Prop Target Operand Piece Class Function Member Method Elem Params
  bare_params y = map-Params ArgumentWith EntryWith ExprWith KeyWith SuffixWith PropWith TargetWith OperandWith PieceWith ClassWith FunctionWith MemberWith MethodWith ElemWith ParamsWith Argument Entry Expr Key Suffix Prop Target Operand Piece Class Function Member Method Elem Params (λ e. e.0) (λ e. e.0) (λ e. e.0) (λ e. e.0) (λ e. e.0) (λ e. e.0) (λ e. e.0) (λ e. e.0) (λ e. e.0) (λ e. e.0) (λ e. e.0) (λ e. e.0) (λ e. e.0) (λ e. e.0) (λ e. e.0) y

  abbrev pub made_params : Params-F Argument Entry Expr Key Suffix Prop Target Operand Piece Class Function Member Method Elem Params → Params-F (Making CoreArgument) (Making CoreEntry) Expression MadeKey Suffixed MadeProp MadeTarget MadeOperand (Making CorePiece) MadeClass MadeFunction MadeMember MadeMethod MadeElem MadeParams
  made_params y = map-Params Argument Entry Expr Key Suffix Prop Target Operand Piece Class Function Member Method Elem Params (Making CoreArgument) (Making CoreEntry) Expression MadeKey Suffixed MadeProp MadeTarget MadeOperand (Making CorePiece) MadeClass MadeFunction MadeMember MadeMethod MadeElem MadeParams (argument_of by_scopes i) (entry_of by_scopes i) (expression by_scopes i) (key_of by_scopes i) (suffix_of by_scopes i) (prop_of by_scopes i) (target_of by_scopes i) (operand_of by_scopes i) (piece_of by_scopes i) (class_of by_scopes i) (function_of by_scopes i) (member_of by_scopes i) (method_of by_scopes i) (elem_of by_scopes i) (params_of by_scopes i) y

  abbrev pub used_params : Params-F Argument Entry Expr Key Suffix Prop Target Operand Piece Class Function Member Method Elem Params → Params-F (Making CoreArgument) (Making CoreEntry) Expression MadeKey Suffixed MadeProp MadeTarget MadeOperand (Making CorePiece) MadeClass MadeFunction MadeMember MadeMethod MadeElem MadeParams
  used_params y = map-Params Argument Entry Expr Key Suffix Prop Target Operand Piece Class Function Member Method Elem Params (Making CoreArgument) (Making CoreEntry) Expression MadeKey Suffixed MadeProp MadeTarget MadeOperand (Making CorePiece) MadeClass MadeFunction MadeMember MadeMethod MadeElem MadeParams (argument_of by_uses j) (entry_of by_uses j) (expression by_uses j) (key_of by_uses j) (suffix_of by_uses j) (prop_of by_uses j) (target_of by_uses j) (operand_of by_uses j) (piece_of by_uses j) (class_of by_uses j) (function_of by_uses j) (member_of by_uses j) (method_of by_uses j) (elem_of by_uses j) (params_of by_uses j) y
