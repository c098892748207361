-- Behind each spelling an end of the tokens is left, a proper one if the spelling has a token: a table over the grammar.
use Rattle.std.proofs.Common.{ℕ, Bool, List, Option}
use Rattle.actx_text.specs.declared.units.Units.{Units}
use Rattle.actx_tree.specs.declared.expr.Expr.{Expr}
use Rattle.actx_tree.specs.declared.expr.Piece.{Piece}
use Rattle.actx_tree.specs.declared.expr.Argument.{Argument}
use Rattle.actx_tree.specs.declared.expr.Entry.{Entry}
use Rattle.actx_tree.specs.declared.expr.Key.{Key}
use Rattle.actx_tree.specs.declared.expr.Suffix.{Suffix}
use Rattle.actx_tree.specs.declared.expr.Operand.{Operand}
use Rattle.actx_tree.specs.declared.function.Flow.{Flow}
use Rattle.actx_tree.specs.declared.function.Unread.{Unread}
use Rattle.actx_tree.specs.declared.function.Function.{Function}
use Rattle.actx_tree.specs.declared.function.Method.{Method}
use Rattle.actx_tree.specs.declared.function.Class.{Class}
use Rattle.actx_tree.specs.declared.function.Member.{Member}
use Rattle.actx_tree.specs.declared.pattern.Target.{Target}
use Rattle.actx_tree.specs.declared.pattern.Prop.{Prop}
use Rattle.actx_tree.specs.declared.pattern.Elem.{Elem}
use Rattle.actx_tree.specs.declared.pattern.Params.{Params}
use Rattle.actx_grammar.specs.declared.bracket.Bracket.{Bracket}
use Rattle.actx_grammar.specs.Tokens.{Tokens}
use Rattle.actx_grammar.specs.Grammar.{SpWord, word-name, word-reserved, SpName, name-some, name-none, SpLiteral, literal-word, literal-text, literal-number, SpRestName, rest_name-none, rest_name-some, SpUnread, unread, SpFunctionHead, head-plain, head-generator, head-async, SpMethodHead, method_head-plain, method_head-generator, method_head-async, SpTarget, target-name, target-object, target-object_rest, target-array, target-array_rest, SpProps, props-none, props-last, props-more, SpProp, prop-name, prop-pair, SpElems, elems-none, elems-last, elems-more, SpElem, elem, SpDefault, default-none, default-some, SpParams, params, SpRestTarget, rest-none, rest-some, SpFunction, function, SpMethod, method, SpClass, class-base, class-derived, SpMembers, members-none, members-semicolon, members-more, SpMember, member-static, member-plain, SpExpr, expr-one, expr-comma, SpCommas, commas-none, commas-more, SpAssign, assign-cond, assign-place, assign-yield, assign-yield_of, assign-arrow, assign-arrow_block, SpArrowHead, arrow_head-plain, arrow_head-async, SpArrowParams, arrow_params-name, arrow_params-list, SpCond, cond-one, cond-test, SpShort, short-or, short-coalesce, SpLevel, level-unary, level-one, level-chain, SpOperands, operands-none, operands-more, SpUnary, unary-op, unary-before, unary-after, unary-left, SpLeft, left-made, left-suffixes, SpMade, made-primary, made-new, made-new_bare, SpSuffixes, suffixes-none, suffixes-more, SpMemberSuffixes, member_suffixes-none, member_suffixes-more, SpSuffix, suffix-member, suffix-call, suffix-optional_name, suffix-optional_index, suffix-optional_call, SpMemberSuffix, member_suffix-name, member_suffix-index, SpIndex, index, SpArgs, args, SpArguments, arguments-none, arguments-last, arguments-more, SpArgument, argument-one, argument-spread, SpPrimary, primary-name, primary-number, primary-text, primary-true, primary-false, primary-null, primary-this, primary-template, primary-template_of, primary-brackets, primary-array, primary-object, primary-super_call, primary-super_member, primary-function, primary-class, SpPieces, pieces-last, pieces-more, SpEntries, entries-none, entries-last, entries-more, SpEntry, entry-spread, entry-name, entry-pair, entry-method, SpKey, key-literal, key-computed}
use Rattle.actx_grammar.proofs.Past.{Past, here, there, Ends, whole, some, join, upto, onto, past-brackets}
use Rattle.actx_grammar.specs.declared.bracket.Bracket.TheVariants as bracket

pub past-word : {i0 : Units} {a b : Tokens} → SpWord i0 a b → Past a b
past-word (word-name p0) = here
past-word (word-reserved p0) = here

pub past-name : {i0 : Option Units} {a b : Tokens} → SpName i0 a b → Ends a b
past-name (name-some p0) = some (here)
past-name (name-none p0) = whole

pub past-literal : {i0 : Key} {a b : Tokens} → SpLiteral i0 a b → Past a b
past-literal (literal-word p0) = past-word p0
past-literal (literal-text p0) = here
past-literal (literal-number p0) = here

pub past-rest_name : {i0 : Bracket} {i1 : Option Units} {a b : Tokens} → SpRestName i0 i1 a b → Past a b
past-rest_name (rest_name-none p0) = here
past-rest_name (rest_name-some p0 p1 p2) = there (there (here))

pub past-unread : {i0 : Unread} {a b : Tokens} → SpUnread i0 a b → Past a b
past-unread (unread {a = m} {b = b} p0 p1 p2 p3) = there (past-brackets bracket.Curly m 0 b p1)

pub past-function_head : {i0 : Flow} {a b : Tokens} → SpFunctionHead i0 a b → Past a b
past-function_head (head-plain p0 p1) = here
past-function_head (head-generator p0 p1) = there (here)
past-function_head (head-async p0) = there (here)

pub past-method_head : {i0 : Flow} {a b : Tokens} → SpMethodHead i0 a b → Ends a b
past-method_head (method_head-plain p0) = whole
past-method_head (method_head-generator p0) = some (here)
past-method_head (method_head-async p0) = some (here)

mutual
  pub past-target : {i0 : Target} {i1 : ℕ} {a b : Tokens} → SpTarget i0 i1 a b → Past a b
  past-target (target-name p0) = here
  past-target (target-object p0 p1 p2) = there (onto (past-props p1) (past-rest_name p2))
  past-target (target-object_rest p0 p1) = there (past-rest_name p1)
  past-target (target-array p0 p1 p2) = there (onto (past-elems p1) (past-rest_name p2))
  past-target (target-array_rest p0 p1) = there (past-rest_name p1)

  pub past-props : {i0 : List Prop} {i1 : ℕ} {a b : Tokens} → SpProps i0 i1 a b → Ends a b
  past-props props-none = whole
  past-props (props-last p0 p1) = some (past-prop p0)
  past-props (props-more p0 p1 p2) = some (join (past-prop p0) (upto here (past-props p2)))

  pub past-prop : {i0 : Prop} {i1 : ℕ} {a b : Tokens} → SpProp i0 i1 a b → Past a b
  past-prop (prop-name p0 p1) = upto here (past-default p1)
  past-prop (prop-pair p0 p1 p2) = join (past-literal p0) (there (past-elem p2))

  pub past-elems : {i0 : Bracket} {i1 : List Elem} {i2 : ℕ} {a b : Tokens} → SpElems i0 i1 i2 a b → Ends a b
  past-elems elems-none = whole
  past-elems (elems-last p0 p1) = some (past-elem p0)
  past-elems (elems-more p0 p1 p2) = some (join (past-elem p0) (upto here (past-elems p2)))

  pub past-elem : {i0 : Elem} {i1 : ℕ} {a b : Tokens} → SpElem i0 i1 a b → Past a b
  past-elem (elem p0 p1) = upto (past-target p0) (past-default p1)

  pub past-default : {i0 : Option Expr} {i1 : ℕ} {a b : Tokens} → SpDefault i0 i1 a b → Ends a b
  past-default default-none = whole
  past-default (default-some p0 p1) = some (there (past-assign p1))

  pub past-params : {i0 : Params} {i1 : ℕ} {a b : Tokens} → SpParams i0 i1 a b → Past a b
  past-params (params p0 p1 p2) = there (onto (past-elems p1) (past-rest_target p2))

  pub past-rest_target : {i0 : Option Target} {i1 : ℕ} {a b : Tokens} → SpRestTarget i0 i1 a b → Past a b
  past-rest_target (rest-none p0) = here
  past-rest_target (rest-some p0 p1 p2) = there (join (past-target p1) (here))

  pub past-function : {i0 : Function} {i1 : ℕ} {a b : Tokens} → SpFunction i0 i1 a b → Past a b
  past-function (function p0 p1 p2 p3) = join (past-function_head p0) (onto (past-name p1) (join (past-params p2) (past-unread p3)))

  pub past-method : {i0 : Method} {i1 : ℕ} {a b : Tokens} → SpMethod i0 i1 a b → Past a b
  past-method (method p0 p1 p2 p3) = onto (past-method_head p0) (join (past-key p1) (join (past-params p2) (past-unread p3)))

  pub past-class : {i0 : Class} {i1 : ℕ} {a b : Tokens} → SpClass i0 i1 a b → Past a b
  past-class (class-base p0 p1 p2 p3 p4) = there (onto (past-name p1) (there (onto (past-members p3) (here))))
  past-class (class-derived p0 p1 p2 p3 p4 p5 p6) = there (onto (past-name p1) (there (join (past-left p3) (there (onto (past-members p5) (here))))))

  pub past-members : {i0 : List Member} {i1 : ℕ} {a b : Tokens} → SpMembers i0 i1 a b → Ends a b
  past-members members-none = whole
  past-members (members-semicolon p0 p1) = some (upto here (past-members p1))
  past-members (members-more p0 p1) = some (upto (past-member p0) (past-members p1))

  pub past-member : {i0 : Member} {i1 : ℕ} {a b : Tokens} → SpMember i0 i1 a b → Past a b
  past-member (member-static p0 p1 p2) = there (past-method p1)
  past-member (member-plain p0 p1 p2) = past-method p1

  pub past-expr : {i0 : Expr} {i1 : ℕ} {a b : Tokens} → SpExpr i0 i1 a b → Past a b
  past-expr (expr-one p0) = past-assign p0
  past-expr (expr-comma p0 p1) = upto (past-assign p0) (past-commas p1)

  pub past-commas : {i0 : List Expr} {i1 : ℕ} {a b : Tokens} → SpCommas i0 i1 a b → Ends a b
  past-commas commas-none = whole
  past-commas (commas-more p0 p1 p2) = some (there (upto (past-assign p1) (past-commas p2)))

  pub past-assign : {i0 : Expr} {i1 : ℕ} {a b : Tokens} → SpAssign i0 i1 a b → Past a b
  past-assign (assign-cond p0 p1) = past-cond p1
  past-assign (assign-place p0 p1 p2 p3 p4) = join (past-left p1) (there (past-assign p4))
  past-assign (assign-yield p0 p1) = here
  past-assign (assign-yield_of p0 p1 p2) = there (past-assign p2)
  past-assign (assign-arrow p0 p1 p2 p3 p4 p5) = join (past-arrow_head p1) (there (past-assign p5))
  past-assign (assign-arrow_block p0 p1 p2 p3 p4) = join (past-arrow_head p1) (there (past-unread p4))

  pub past-arrow_head : {i0 : Bool} {i1 : Params} {i2 : ℕ} {a b : Tokens} → SpArrowHead i0 i1 i2 a b → Past a b
  past-arrow_head (arrow_head-plain p0) = past-arrow_params p0
  past-arrow_head (arrow_head-async p0 p1 p2) = there (past-arrow_params p2)

  pub past-arrow_params : {i0 : Params} {i1 : ℕ} {a b : Tokens} → SpArrowParams i0 i1 a b → Past a b
  past-arrow_params (arrow_params-name p0) = here
  past-arrow_params (arrow_params-list p0) = past-params p0

  pub past-cond : {i0 : Expr} {i1 : ℕ} {a b : Tokens} → SpCond i0 i1 a b → Past a b
  past-cond (cond-one p0) = past-short p0
  past-cond (cond-test p0 p1 p2 p3 p4) = join (past-short p0) (there (join (past-assign p2) (there (past-assign p4))))

  pub past-short : {i0 : Expr} {i1 : ℕ} {a b : Tokens} → SpShort i0 i1 a b → Past a b
  past-short (short-or p0) = past-level p0
  past-short (short-coalesce p0 p1) = upto (past-level p0) (past-operands p1)

  pub past-level : {i0 : ℕ} {i1 : Expr} {i2 : ℕ} {a b : Tokens} → SpLevel i0 i1 i2 a b → Past a b
  past-level (level-unary p0) = past-unary p0
  past-level (level-one p0) = past-level p0
  past-level (level-chain p0 p1) = upto (past-level p0) (past-operands p1)

  pub past-operands : {i0 : ℕ} {i1 : ℕ} {i2 : List Operand} {i3 : ℕ} {a b : Tokens} → SpOperands i0 i1 i2 i3 a b → Ends a b
  past-operands operands-none = whole
  past-operands (operands-more p0 p1 p2 p3) = some (there (upto (past-level p2) (past-operands p3)))

  pub past-unary : {i0 : Expr} {i1 : ℕ} {a b : Tokens} → SpUnary i0 i1 a b → Past a b
  past-unary (unary-op p0 p1) = there (past-unary p1)
  past-unary (unary-before p0 p1 p2) = there (past-left p1)
  past-unary (unary-after p0 p1 p2 p3) = join (past-left p0) (here)
  past-unary (unary-left p0) = past-left p0

  pub past-left : {i0 : Expr} {i1 : ℕ} {a b : Tokens} → SpLeft i0 i1 a b → Past a b
  past-left (left-made p0) = past-made p0
  past-left (left-suffixes p0 p1) = upto (past-made p0) (past-suffixes p1)

  pub past-made : {i0 : Expr} {i1 : ℕ} {a b : Tokens} → SpMade i0 i1 a b → Past a b
  past-made (made-primary p0) = past-primary p0
  past-made (made-new p0 p1 p2 p3) = there (join (past-made p1) (onto (past-member_suffixes p2) (past-args p3)))
  past-made (made-new_bare p0 p1 p2 p3) = there (upto (past-made p1) (past-member_suffixes p2))

  pub past-suffixes : {i0 : List Suffix} {i1 : ℕ} {a b : Tokens} → SpSuffixes i0 i1 a b → Ends a b
  past-suffixes suffixes-none = whole
  past-suffixes (suffixes-more p0 p1) = some (upto (past-suffix p0) (past-suffixes p1))

  pub past-member_suffixes : {i0 : List Suffix} {i1 : ℕ} {a b : Tokens} → SpMemberSuffixes i0 i1 a b → Ends a b
  past-member_suffixes member_suffixes-none = whole
  past-member_suffixes (member_suffixes-more p0 p1) = some (upto (past-member_suffix p0) (past-member_suffixes p1))

  pub past-suffix : {i0 : Suffix} {i1 : ℕ} {a b : Tokens} → SpSuffix i0 i1 a b → Past a b
  past-suffix (suffix-member p0) = past-member_suffix p0
  past-suffix (suffix-call p0) = past-args p0
  past-suffix (suffix-optional_name p0 p1) = there (past-word p1)
  past-suffix (suffix-optional_index p0 p1) = there (past-index p1)
  past-suffix (suffix-optional_call p0 p1) = there (past-args p1)

  pub past-member_suffix : {i0 : Suffix} {i1 : ℕ} {a b : Tokens} → SpMemberSuffix i0 i1 a b → Past a b
  past-member_suffix (member_suffix-name p0 p1) = there (past-word p1)
  past-member_suffix (member_suffix-index p0) = past-index p0

  pub past-index : {i0 : Expr} {i1 : ℕ} {a b : Tokens} → SpIndex i0 i1 a b → Past a b
  past-index (index p0 p1 p2) = there (join (past-expr p1) (here))

  pub past-args : {i0 : List Argument} {i1 : ℕ} {a b : Tokens} → SpArgs i0 i1 a b → Past a b
  past-args (args p0 p1 p2) = there (onto (past-arguments p1) (here))

  pub past-arguments : {i0 : Bracket} {i1 : List Argument} {i2 : ℕ} {a b : Tokens} → SpArguments i0 i1 i2 a b → Ends a b
  past-arguments arguments-none = whole
  past-arguments (arguments-last p0 p1) = some (past-argument p0)
  past-arguments (arguments-more p0 p1 p2) = some (join (past-argument p0) (upto here (past-arguments p2)))

  pub past-argument : {i0 : Argument} {i1 : ℕ} {a b : Tokens} → SpArgument i0 i1 a b → Past a b
  past-argument (argument-one p0) = past-assign p0
  past-argument (argument-spread p0 p1) = there (past-assign p1)

  pub past-primary : {i0 : Expr} {i1 : ℕ} {a b : Tokens} → SpPrimary i0 i1 a b → Past a b
  past-primary (primary-name p0 p1) = here
  past-primary (primary-number p0) = here
  past-primary (primary-text p0) = here
  past-primary (primary-true p0) = here
  past-primary (primary-false p0) = here
  past-primary (primary-null p0) = here
  past-primary (primary-this p0) = here
  past-primary (primary-template p0) = here
  past-primary (primary-template_of p0 p1) = there (past-pieces p1)
  past-primary (primary-brackets p0 p1 p2) = there (join (past-expr p1) (here))
  past-primary (primary-array p0 p1 p2) = there (onto (past-arguments p1) (here))
  past-primary (primary-object p0 p1 p2) = there (onto (past-entries p1) (here))
  past-primary (primary-super_call p0 p1) = there (past-args p1)
  past-primary (primary-super_member p0 p1 p2) = there (there (past-word p2))
  past-primary (primary-function p0) = past-function p0
  past-primary (primary-class p0) = past-class p0

  pub past-pieces : {i0 : List Piece} {i1 : ℕ} {a b : Tokens} → SpPieces i0 i1 a b → Past a b
  past-pieces (pieces-last p0 p1) = join (past-expr p0) (here)
  past-pieces (pieces-more p0 p1 p2) = join (past-expr p0) (there (past-pieces p2))

  pub past-entries : {i0 : List Entry} {i1 : ℕ} {a b : Tokens} → SpEntries i0 i1 a b → Ends a b
  past-entries entries-none = whole
  past-entries (entries-last p0 p1) = some (past-entry p0)
  past-entries (entries-more p0 p1 p2) = some (join (past-entry p0) (upto here (past-entries p2)))

  pub past-entry : {i0 : Entry} {i1 : ℕ} {a b : Tokens} → SpEntry i0 i1 a b → Past a b
  past-entry (entry-spread p0 p1) = there (past-assign p1)
  past-entry (entry-name p0 p1) = here
  past-entry (entry-pair p0 p1 p2 p3 p4) = join (past-key p2) (there (past-assign p4))
  past-entry (entry-method p0 p1) = past-method p1

  pub past-key : {i0 : Key} {i1 : ℕ} {a b : Tokens} → SpKey i0 i1 a b → Past a b
  past-key (key-literal p0) = past-literal p0
  past-key (key-computed p0 p1 p2) = there (join (past-assign p1) (here))
