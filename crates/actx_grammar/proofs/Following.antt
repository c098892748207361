-- How a token that stands behind a spelling goes on with it: the least level of the grammar that takes it.
use Rattle.std.proofs.Common.{◌≡◌, ℕ, ◌+◌, ◌<◌, ◌≤◌, ◌==◌, Bool, true, false, not, ◌&&◌, ◌||◌, if◌then◌else◌, ◌∷◌, Option, Some, None, is_some, refl, ap, ◌∙◌, arith}
use Rattle.std.proofs.lemmas.Bool.Decides.{nat_tests}
use Rattle.actx_lex.specs.declared.token.Token.{Token}
use Rattle.actx_lex.specs.declared.token.Punct.TheVariants as p
use Rattle.actx_tree.specs.declared.operator.BinaryOp.{BinaryOp}
use Rattle.actx_tree.specs.declared.operator.BinaryOp.TheVariants as binary
use Rattle.actx_tree.specs.declared.operator.StepOp.{StepOp}
use Rattle.actx_tree.specs.declared.operator.AssignOp.{AssignOp}
use Rattle.actx_grammar.specs.declared.kind.Kind.{Kind}
use Rattle.actx_grammar.specs.declared.kind.Kind.TheVariants as kind
use Rattle.actx_grammar.specs.declared.word.Word.TheVariants as word
use Rattle.actx_grammar.specs.Kinds.{kind_of, begins_suffix, binary_op, level_of, step_op, assign_op, is_question, is_comma, is_open_brace, goes_on_line, ends_always}
use Rattle.actx_grammar.specs.Tokens.{Tokens, Is, next, behind, is_on_line, ends_expression, ends_assign, ends_left}
use Rattle.actx_grammar.specs.Lines.{of_level, operator_at, step_at, goes_on_comma}

abbrev pub by_operator : Option BinaryOp → ℕ → ℕ
by_operator None n = n
by_operator (Some op) n = 2 + level_of op

abbrev pub looser : Kind → ℕ
looser sort = if is_question sort then 10 else (if is_some (assign_op sort) then 11 else (if is_comma sort then 12 else 13))

-- 1 a suffix, 2 `++` and `--` on the line, 3 to 9 the operators, 10 `?`, 11 an assignment, 12 a comma, 13 none of them
abbrev pub following : Kind → Bool → ℕ
following sort line = if begins_suffix sort then 1 else (if is_some (step_op sort) && line then 2 else by_operator (binary_op sort) (looser sort))

unfoldable pub after : Tokens → ℕ
after a = following (next a) (is_on_line a)

-- ---- the next token of tokens that are there

pub next_is : (t : Token) (ts : Tokens) → next (t ∷ ts) ≡ kind_of t.kind
unfolding next
next_is t ts = refl

pub behind_is : (t : Token) (ts : Tokens) → behind (t ∷ ts) ≡ ts
unfolding behind
behind_is t ts = refl

pub after_is : (t : Token) {sort : Kind} (ts : Tokens) → Is sort t → after (t ∷ ts) ≡ following sort (not t.first)
unfolding after next is_on_line
after_is t ts e = ap (λ s. following s (not t.first)) e

-- ---- what a level rules out

suffix_no : (c : Bool) (x : ℕ) → 1 < (if c then 1 else x) → c ≡ false
suffix_no true x l = Prim.absurd (omega arith)
suffix_no false x l = refl

pub no_suffix : (b : Tokens) → 1 < after b → begins_suffix (next b) ≡ false
unfolding after
no_suffix b l = suffix_no (begins_suffix (next b)) _ l

step_no : (c line : Bool) (s : Option StepOp) (x : ℕ) → 2 < (if c then 1 else (if is_some s && line then 2 else x)) → (if line then s else None) ≡ None
step_no true line s x l = Prim.absurd (omega arith)
step_no false false s x l = refl
step_no false true None x l = refl
step_no false true (Some op) x l = Prim.absurd (omega arith)

pub no_step : (b : Tokens) → 2 < after b → step_at b ≡ None
unfolding after step_at
no_step b l = step_no (begins_suffix (next b)) (is_on_line b) (step_op (next b)) _ l

other_level : (op : BinaryOp) (own : ℕ) → own < level_of op → of_level own (Some op) ≡ None
other_level op own l = let e : (level_of op == own) ≡ false = grind (arith, nat_tests) in rw e refl

operator_no : (own : ℕ) (c d : Bool) (o : Option BinaryOp) (x : ℕ) → 2 + own < (if c then 1 else (if d then 2 else by_operator o x)) → of_level own o ≡ None
operator_no own true d o x l = Prim.absurd (omega arith)
operator_no own false true o x l = Prim.absurd (omega arith)
operator_no own false false None x l = refl
operator_no own false false (Some op) x l = other_level op own (omega arith)

pub no_operator : (own : ℕ) (b : Tokens) → 2 + own < after b → operator_at own b ≡ None
unfolding after operator_at
no_operator own b l = operator_no own (begins_suffix (next b)) _ (binary_op (next b)) _ l

level_bound : (op : BinaryOp) → level_of op ≤ 7
level_bound binary.Multiply = omega arith
level_bound binary.Divide = omega arith
level_bound binary.Remainder = omega arith
level_bound binary.Add = omega arith
level_bound binary.Subtract = omega arith
level_bound binary.Less = omega arith
level_bound binary.Greater = omega arith
level_bound binary.LessOrEqual = omega arith
level_bound binary.GreaterOrEqual = omega arith
level_bound binary.InstanceOf = omega arith
level_bound binary.In = omega arith
level_bound binary.Equal = omega arith
level_bound binary.NotEqual = omega arith
level_bound binary.StrictEqual = omega arith
level_bound binary.StrictNotEqual = omega arith
level_bound binary.And = omega arith
level_bound binary.Or = omega arith
level_bound binary.Coalesce = omega arith

-- above the operators only the looser ones are left
loose_only : (n : ℕ) (c d : Bool) (o : Option BinaryOp) (x : ℕ) → 9 < n → n < (if c then 1 else (if d then 2 else by_operator o x)) → n < x
loose_only n true d o x g l = Prim.absurd (omega arith)
loose_only n false true o x g l = Prim.absurd (omega arith)
loose_only n false false None x g l = l
loose_only n false false (Some op) x g l = let b = level_bound op in Prim.absurd (omega arith)

question_no : (q : Bool) (x : ℕ) → 10 < (if q then 10 else x) → q ≡ false
question_no true x l = Prim.absurd (omega arith)
question_no false x l = refl

pub no_question : (b : Tokens) → 10 < after b → is_question (next b) ≡ false
unfolding after
no_question b l = question_no (is_question (next b)) _ (loose_only 10 (begins_suffix (next b)) _ (binary_op (next b)) (looser (next b)) (omega arith) l)

assign_no : (q : Bool) (o : Option AssignOp) (x : ℕ) → 11 < (if q then 10 else (if is_some o then 11 else x)) → o ≡ None
assign_no true o x l = Prim.absurd (omega arith)
assign_no false None x l = refl
assign_no false (Some op) x l = Prim.absurd (omega arith)

pub no_assign : (b : Tokens) → 11 < after b → assign_op (next b) ≡ None
unfolding after
no_assign b l = assign_no (is_question (next b)) (assign_op (next b)) _ (loose_only 11 (begins_suffix (next b)) _ (binary_op (next b)) (looser (next b)) (omega arith) l)

comma_no : (q o c : Bool) (x : ℕ) → 12 < (if q then 10 else (if o then 11 else (if c then 12 else x))) → c ≡ false
comma_no true o c x l = Prim.absurd (omega arith)
comma_no false true c x l = Prim.absurd (omega arith)
comma_no false false true x l = Prim.absurd (omega arith)
comma_no false false false x l = refl

pub no_comma : (b : Tokens) → 12 < after b → goes_on_comma b ≡ false
unfolding after goes_on_comma
no_comma b l = comma_no (is_question (next b)) _ (is_comma (next b)) _ (loose_only 12 (begins_suffix (next b)) _ (binary_op (next b)) (looser (next b)) (omega arith) l)

-- ---- the level of a token

operator_suffix : (sort : Kind) → is_some (binary_op sort) ≡ true → begins_suffix sort ≡ false
operator_suffix (kind.Sign p.Dot) e = Prim.absurd (cc)
operator_suffix (kind.Sign p.OptionalDot) e = Prim.absurd (cc)
operator_suffix (kind.Sign p.OpenParenthesis) e = Prim.absurd (cc)
operator_suffix (kind.Sign p.OpenBracket) e = Prim.absurd (cc)
operator_suffix _ e = refl

operator_step : (sort : Kind) → is_some (binary_op sort) ≡ true → step_op sort ≡ None
operator_step (kind.Sign p.PlusPlus) e = Prim.absurd (cc)
operator_step (kind.Sign p.MinusMinus) e = Prim.absurd (cc)
operator_step _ e = refl

following_operator : (sort : Kind) (line : Bool) (op : BinaryOp) → binary_op sort ≡ Some op → following sort line ≡ 2 + level_of op
following_operator sort line op e = let s : is_some (binary_op sort) ≡ true = rw e refl in rw (operator_suffix sort s, operator_step sort s, e) refl

pub after_operator : (t : Token) {op : BinaryOp} (ts : Tokens) → binary_op (kind_of t.kind) ≡ Some op → after (t ∷ ts) ≡ 2 + level_of op
unfolding after next is_on_line
after_operator t {op = op} ts e = following_operator (kind_of t.kind) (not t.first) op e

following_step : (sort : Kind) (op : StepOp) → step_op sort ≡ Some op → following sort true ≡ 2
following_step (kind.Sign p.PlusPlus) op e = refl
following_step (kind.Sign p.MinusMinus) op e = refl
following_step _ op e = Prim.absurd (cc)

pub after_step : (t : Token) {op : StepOp} (ts : Tokens) → step_op (kind_of t.kind) ≡ Some op → t.first ≡ false → after (t ∷ ts) ≡ 2
unfolding after next is_on_line
after_step t {op = op} ts e f = ap (λ l. following (kind_of t.kind) (not l)) f ∙ following_step (kind_of t.kind) op e

following_assign : (sort : Kind) (line : Bool) (op : AssignOp) → assign_op sort ≡ Some op → following sort line ≡ 11
following_assign (kind.Sign p.Assign) line op e = refl
following_assign (kind.Sign p.PlusAssign) line op e = refl
following_assign (kind.Sign p.MinusAssign) line op e = refl
following_assign (kind.Sign p.StarAssign) line op e = refl
following_assign (kind.Sign p.SlashAssign) line op e = refl
following_assign (kind.Sign p.PercentAssign) line op e = refl
following_assign (kind.Sign p.AndAssign) line op e = refl
following_assign (kind.Sign p.OrAssign) line op e = refl
following_assign (kind.Sign p.CoalesceAssign) line op e = refl
following_assign _ line op e = Prim.absurd (cc)

pub after_assign : (t : Token) {op : AssignOp} (ts : Tokens) → assign_op (kind_of t.kind) ≡ Some op → after (t ∷ ts) ≡ 11
unfolding after next is_on_line
after_assign t {op = op} ts e = following_assign (kind_of t.kind) (not t.first) op e

pub after_suffix : (a : Tokens) → begins_suffix (next a) ≡ true → after a ≡ 1
unfolding after
after_suffix a e = rw e refl

-- ---- what ends an Expr, an Assign, a Left

following_end : (sort : Kind) (line : Bool) → ends_always sort ≡ true → following sort line ≡ 13
following_end kind.End line e = refl
following_end (kind.Sign p.CloseParenthesis) line e = refl
following_end (kind.Sign p.CloseBracket) line e = refl
following_end (kind.Sign p.CloseBrace) line e = refl
following_end (kind.Sign p.Colon) line e = refl
following_end (kind.Sign p.Semicolon) line e = refl
following_end (kind.Piece false closes) line e = refl
following_end _ line e = Prim.absurd (cc)

following_break : (sort : Kind) → goes_on_line sort ≡ false → following sort false ≡ 13
following_break (kind.Sign p.OpenParenthesis) e = Prim.absurd (cc)
following_break (kind.Sign p.OpenBracket) e = Prim.absurd (cc)
following_break (kind.Sign p.Dot) e = Prim.absurd (cc)
following_break (kind.Sign p.OptionalDot) e = Prim.absurd (cc)
following_break (kind.Sign p.Question) e = Prim.absurd (cc)
following_break (kind.Sign p.Comma) e = Prim.absurd (cc)
following_break (kind.Sign p.Plus) e = Prim.absurd (cc)
following_break (kind.Sign p.Minus) e = Prim.absurd (cc)
following_break (kind.Sign p.Star) e = Prim.absurd (cc)
following_break (kind.Sign p.Slash) e = Prim.absurd (cc)
following_break (kind.Sign p.Percent) e = Prim.absurd (cc)
following_break (kind.Sign p.Less) e = Prim.absurd (cc)
following_break (kind.Sign p.Greater) e = Prim.absurd (cc)
following_break (kind.Sign p.LessOrEqual) e = Prim.absurd (cc)
following_break (kind.Sign p.GreaterOrEqual) e = Prim.absurd (cc)
following_break (kind.Sign p.Equal) e = Prim.absurd (cc)
following_break (kind.Sign p.NotEqual) e = Prim.absurd (cc)
following_break (kind.Sign p.StrictEqual) e = Prim.absurd (cc)
following_break (kind.Sign p.StrictNotEqual) e = Prim.absurd (cc)
following_break (kind.Sign p.And) e = Prim.absurd (cc)
following_break (kind.Sign p.Or) e = Prim.absurd (cc)
following_break (kind.Sign p.Coalesce) e = Prim.absurd (cc)
following_break (kind.Sign p.Assign) e = Prim.absurd (cc)
following_break (kind.Sign p.PlusAssign) e = Prim.absurd (cc)
following_break (kind.Sign p.MinusAssign) e = Prim.absurd (cc)
following_break (kind.Sign p.StarAssign) e = Prim.absurd (cc)
following_break (kind.Sign p.SlashAssign) e = Prim.absurd (cc)
following_break (kind.Sign p.PercentAssign) e = Prim.absurd (cc)
following_break (kind.Sign p.AndAssign) e = Prim.absurd (cc)
following_break (kind.Sign p.OrAssign) e = Prim.absurd (cc)
following_break (kind.Sign p.CoalesceAssign) e = Prim.absurd (cc)
following_break (kind.Word word.In) e = Prim.absurd (cc)
following_break (kind.Word word.Instanceof) e = Prim.absurd (cc)
following_break _ e = refl

expression_end : (sort : Kind) (line always on : Bool) → ends_always sort ≡ always → goes_on_line sort ≡ on → (always || (not line && not on)) ≡ true → following sort line ≡ 13
expression_end sort line true on a g e = following_end sort line a
expression_end sort false false false a g e = following_break sort g
expression_end sort false false true a g e = Prim.absurd (cc)
expression_end sort true false on a g e = Prim.absurd (cc)

pub after_end : (b : Tokens) → ends_expression b ≡ true → after b ≡ 13
unfolding after ends_expression
after_end b e = expression_end (next b) (is_on_line b) (ends_always (next b)) (goes_on_line (next b)) refl refl e

comma_level : (sort : Kind) (line : Bool) → is_comma sort ≡ true → following sort line ≡ 12
comma_level (kind.Sign p.Comma) line e = refl
comma_level _ line e = Prim.absurd (cc)

assign_end : (b : Tokens) (c : Bool) → is_comma (next b) ≡ c → (c || ends_expression b) ≡ true → 11 < after b
unfolding after
assign_end b true q e = rw (comma_level (next b) (is_on_line b) q) (omega arith)
assign_end b false q e = let f = after_end b e in omega arith

pub after_assign_end : (b : Tokens) → ends_assign b ≡ true → 11 < after b
unfolding ends_assign
after_assign_end b e = assign_end b (is_comma (next b)) refl e

left_level : (sort : Kind) (line : Bool) → is_open_brace sort ≡ true → following sort line ≡ 13
left_level (kind.Sign p.OpenBrace) line e = refl
left_level _ line e = Prim.absurd (cc)

pub after_left : (b : Tokens) → ends_left b ≡ true → 1 < after b
unfolding after ends_left
after_left b e = rw (left_level (next b) (is_on_line b) e) (omega arith)
