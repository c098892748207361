-- What the parts of a form are kept as.
use Rattle.std.specs.Prelude.{◌≡◌, Bool, true, false, Option, Some, None}
use Rattle.std.specs.declared.rc.Rc.{Rc}
use Rattle.std.specs.declared.alloc.Global.{Global}
use Rattle.std.specs.declared.vec.Vec.{Vec}
use Rattle.actx_code.specs.declared.form.Form.{Form, Form-F, out-Form}
use Rattle.actx_code.specs.declared.item.Argument.{Argument}
use Rattle.actx_code.specs.declared.item.Caught.{Caught}
use Rattle.actx_code.specs.declared.item.Entry.{Entry}
use Rattle.actx_code.specs.declared.item.Operand.{Operand}
use Rattle.actx_code.specs.declared.item.Piece.{Piece}
use Rattle.actx_code.specs.declared.member.Change.{Change}
use Rattle.actx_code.specs.declared.member.Key.{Key}
use Rattle.actx_code.specs.declared.pattern.Element.{Element}
use Rattle.actx_code.specs.declared.pattern.Pattern.{Pattern}
use Rattle.actx_code.specs.declared.pattern.Property.{Property}
use Rattle.actx_code.specs.declared.member.Suffix.{Suffix}
use Rattle.actx_want.specs.Functions.{Binding}
use Rattle.actx_want.specs.Bodies.{eval_caught}
use Rattle.actx_value.specs.declared.ids.ScopeId.{ScopeId}
use Rattle.actx_frame_items.specs.declared.items.member.Chain.{Chain}
use Rattle.actx_frame_items.specs.declared.items.member.ChainEnd.{ChainEnd}
use Rattle.actx_frame_items.specs.declared.items.walk.WhileLoop.{WhileLoop}
use Rattle.actx_frame_items.specs.declared.items.walk.ForLoop.{ForLoop}

pub record IsChain (c : Chain) (ss : Rc (Vec Suffix Global) Global) (p : ScopeId) (e : ChainEnd) : Type 0 where
  pub suffixes : c.suffixes.value ≡ ss.value
  pub at : c.at ≡ 0
  pub place : c.place ≡ p
  pub end : c.end ≡ e

pub record IsWhile (l : WhileLoop) (t b : Rc Form Global) (p : ScopeId) : Type 0 where
  pub test : l.test.value ≡ t.value
  pub body : l.body.value ≡ b.value
  pub place : l.place ≡ p

pub record IsFor (l : ForLoop) (t u b : Rc Form Global) (p : ScopeId) : Type 0 where
  pub test : l.test.value ≡ t.value
  pub update : l.update.value ≡ u.value
  pub body : l.body.value ≡ b.value
  pub place : l.place ≡ p

-- a catch clause where there is one
abbrev pub clause_in : Option (Rc Caught Global) → Option Binding
clause_in None = None
clause_in (Some c) = Some (eval_caught c.value)

-- the forms of names, operators and members
abbrev pub operation_layer : Form-F Form Argument Caught Entry Change Key Suffix Pattern Operand Piece Element Property → Bool
operation_layer (Form-F.Literal v) = true
operation_layer (Form-F.Name hops i) = true
operation_layer (Form-F.ChangeName hops i c) = true
operation_layer (Form-F.ChangeMember o key c) = true
operation_layer (Form-F.Delete b ss optional key) = true
operation_layer (Form-F.Unary op e) = true
operation_layer (Form-F.Not e) = true
operation_layer (Form-F.Void e) = true
operation_layer (Form-F.Operators e os) = true
operation_layer (Form-F.Logical op e es) = true
operation_layer (Form-F.If t a b) = true
operation_layer (Form-F.Template v ps) = true
operation_layer (Form-F.Suffixes b ss) = true
operation_layer (Form-F.SuperMember hops key ss) = true
operation_layer x = false

unfoldable pub is_operation : Form → Bool
is_operation f = operation_layer (out-Form f)

-- statements
abbrev pub statement_layer : Form-F Form Argument Caught Entry Change Key Suffix Pattern Operand Piece Element Property → Bool
statement_layer (Form-F.Sequence es) = true
statement_layer (Form-F.Block n fs e) = true
statement_layer (Form-F.While t b) = true
statement_layer (Form-F.DoWhile b t) = true
statement_layer (Form-F.For e t u b) = true
statement_layer (Form-F.ForLet n e t u b) = true
statement_layer (Form-F.ForOf n x e b) = true
statement_layer (Form-F.Break n) = true
statement_layer (Form-F.Continue n) = true
statement_layer (Form-F.Return e) = true
statement_layer (Form-F.Throw e) = true
statement_layer (Form-F.Try b c d) = true
statement_layer x = false

unfoldable pub is_statement : Form → Bool
is_statement f = statement_layer (out-Form f)
