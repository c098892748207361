-- What may be assigned to (ECMA-262 §13.15.1, AssignmentTargetType simple).
use Rattle.std.specs.Prelude.{Bool, true, false, not, ◌&&◌, nat_lt, List, [], ◌∷◌}
use Rattle.actx_tree.specs.declared.expr.Expr.{Expr, Expr-F, out-Expr}
use Rattle.actx_tree.specs.declared.expr.Argument.{Argument}
use Rattle.actx_tree.specs.declared.expr.Entry.{Entry}
use Rattle.actx_tree.specs.declared.expr.Key.{Key, Key-F, out-Key}
use Rattle.actx_tree.specs.declared.expr.Suffix.{Suffix, Suffix-F, out-Suffix}
use Rattle.actx_tree.specs.declared.pattern.Prop.{Prop}
use Rattle.actx_tree.specs.declared.pattern.Target.{Target}
use Rattle.actx_tree.specs.declared.expr.Operand.{Operand, out-Operand}
use Rattle.actx_tree.specs.declared.expr.Piece.{Piece}
use Rattle.actx_tree.specs.declared.function.Class.{Class}
use Rattle.actx_tree.specs.declared.function.Function.{Function}
use Rattle.actx_tree.specs.declared.function.Member.{Member}
use Rattle.actx_tree.specs.declared.function.Method.{Method, out-Method}
use Rattle.actx_tree.specs.declared.pattern.Elem.{Elem}
use Rattle.actx_tree.specs.declared.pattern.Params.{Params}
use Rattle.actx_grammar.specs.Kinds.{level_of}

abbrev ExprNode : Type 0
ExprNode = Expr-F Argument Entry Expr Key Suffix Prop Target Operand Piece Class Function Member Method Elem Params

abbrev SuffixNode : Type 0
SuffixNode = Suffix-F Argument Entry Expr Key Suffix Prop Target Operand Piece Class Function Member Method Elem Params

abbrev KeyNode : Type 0
KeyNode = Key-F Argument Entry Expr Key Suffix Prop Target Operand Piece Class Function Member Method Elem Params

-- ---- members

abbrev pub is_optional_at : SuffixNode → Bool
is_optional_at (Suffix-F.Member optional name) = optional
is_optional_at (Suffix-F.Index optional x) = optional
is_optional_at (Suffix-F.Call optional arguments) = optional

-- `?.` stands before the suffix
abbrev pub is_optional : Suffix → Bool
is_optional x = is_optional_at (out-Suffix x)

abbrev pub is_member_at : SuffixNode → Bool
is_member_at (Suffix-F.Member optional name) = true
is_member_at (Suffix-F.Index optional x) = true
is_member_at (Suffix-F.Call optional arguments) = false

-- the suffix is `.name` or `[ .. ]`
abbrev pub is_member : Suffix → Bool
is_member x = is_member_at (out-Suffix x)

-- no `?.` stands among the suffixes, and the last is a member
abbrev pub ends_in_member : List Suffix → Bool
ends_in_member [] = false
ends_in_member (x ∷ []) = not (is_optional x) && is_member x
ends_in_member (x ∷ y ∷ ys) = not (is_optional x) && ends_in_member (y ∷ ys)

-- ---- places

abbrev pub is_super_at : ExprNode → Bool
is_super_at (Expr-F.SuperCall arguments) = true
is_super_at (Expr-F.SuperMember name) = true
is_super_at _ = false

abbrev pub is_super : Expr → Bool
is_super x = is_super_at (out-Expr x)

abbrev pub is_place_at : ExprNode → Bool
is_place_at (Expr-F.Expr::Name name) = true
is_place_at (Expr-F.Left x suffixes) = not (is_super x) && ends_in_member suffixes
is_place_at _ = false

-- a name, or a Left without `?.` and not of `super` whose last suffix is a member
abbrev pub is_place : Expr → Bool
is_place x = is_place_at (out-Expr x)

-- ---- chains

abbrev pub is_logical_at : ExprNode → Bool
is_logical_at (Expr-F.Chain x (o ∷ os)) = nat_lt 4 (level_of (out-Operand o).op)
is_logical_at _ = false

-- a chain of `||` or `&&`, not in brackets
abbrev pub is_logical : Expr → Bool
is_logical x = is_logical_at (out-Expr x)

-- ---- keys

abbrev pub is_plain_key_at : KeyNode → Bool
is_plain_key_at (Key-F.Word name) = true
is_plain_key_at (Key-F.Key::Text text) = true
is_plain_key_at _ = false

-- a word or a text
abbrev pub is_plain_key : Key → Bool
is_plain_key x = is_plain_key_at (out-Key x)

-- the key of the method is one that a member of a class may have
abbrev pub has_plain_key : Method → Bool
has_plain_key x = is_plain_key (out-Method x).key
