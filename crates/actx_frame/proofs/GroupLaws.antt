-- The three groups of forms, by what they aren't.
use Rattle.std.proofs.Common.{◌≡◌, ℕ, Bool, true, false, Option, refl, sym, ◌∙◌}
use Rattle.std.specs.declared.rc.Rc.{Rc}
use Rattle.std.specs.declared.alloc.Global.{Global}
use Rattle.std.specs.declared.vec.Vec.{Vec}
use Rattle.actx_text.specs.declared.body_id.BodyId.{BodyId}
use Rattle.actx_value.specs.declared.value.Value.{Value}
use Rattle.actx_value.specs.declared.operator.UnaryOp.{UnaryOp}
use Rattle.actx_code.specs.declared.form.Form.{Form, Form-F, out-Form, roll-Form, roll-out-Form, Literal, Name, ChangeName, ChangeMember, Delete, Unary, Not, Void, Operators, Logical, If, Template, Suffixes, SuperMember, New, SuperCall, Array, Object, Function, Class, Init, Bind, Yield, Await, Parameter, RestParameter, Begin, Sequence, Block, While, DoWhile, For, ForLet, ForOf, Break, Continue, Return, Throw, Try}
use Rattle.actx_code.specs.declared.form.Form.TheVariants.{rolls-Literal, rolls-Name, rolls-ChangeName, rolls-ChangeMember, rolls-Delete, rolls-Unary, rolls-Not, rolls-Void, rolls-Operators, rolls-Logical, rolls-If, rolls-Template, rolls-Suffixes, rolls-SuperMember, rolls-New, rolls-SuperCall, rolls-Array, rolls-Object, rolls-Function, rolls-Class, rolls-Init, rolls-Bind, rolls-Yield, rolls-Await, rolls-Parameter, rolls-RestParameter, rolls-Begin, rolls-Sequence, rolls-Block, rolls-While, rolls-DoWhile, rolls-For, rolls-ForLet, rolls-ForOf, rolls-Break, rolls-Continue, rolls-Return, rolls-Throw, rolls-Try}
use Rattle.actx_code.specs.declared.item.Logic.{Logic}
use Rattle.actx_code.specs.declared.item.Argument.{Argument}
use Rattle.actx_code.specs.declared.item.Caught.{Caught}
use Rattle.actx_code.specs.declared.item.ClassMember.{ClassMember}
use Rattle.actx_code.specs.declared.item.Declared.{Declared}
use Rattle.actx_code.specs.declared.item.Entry.{Entry}
use Rattle.actx_code.specs.declared.item.Operand.{Operand}
use Rattle.actx_code.specs.declared.item.Piece.{Piece}
use Rattle.actx_code.specs.declared.member.Change.{Change}
use Rattle.actx_code.specs.declared.member.Key.{Key}
use Rattle.actx_code.specs.declared.member.Suffix.{Suffix}
use Rattle.actx_code.specs.declared.pattern.Element.{Element}
use Rattle.actx_code.specs.declared.pattern.Pattern.{Pattern}
use Rattle.actx_code.specs.declared.pattern.Property.{Property}
use Rattle.actx_frame.specs.Begins.{operation_layer, is_operation, statement_layer, is_statement}

-- a form that is none of these is no operation
no_operation_layer : (f : Form) (x : Form-F Form Argument Caught Entry Change Key Suffix Pattern Operand Piece Element Property) → roll-Form x ≡ f → ((v : Value) → f ≡ Literal v → ⊥) → ((hops : ℕ) (i : ℕ) → f ≡ Name hops i → ⊥) → ((hops : ℕ) (i : ℕ) (c : Change) → f ≡ ChangeName hops i c → ⊥) → ((o : Rc Form Global) (key : Key) (c : Change) → f ≡ ChangeMember o key c → ⊥) → ((b : Rc Form Global) (ss : Rc (Vec Suffix Global) Global) (optional : Bool) (key : Key) → f ≡ Delete b ss optional key → ⊥) → ((op : UnaryOp) (e : Rc Form Global) → f ≡ Unary op e → ⊥) → ((e : Rc Form Global) → f ≡ Not e → ⊥) → ((e : Rc Form Global) → f ≡ Void e → ⊥) → ((e : Rc Form Global) (os : Rc (Vec Operand Global) Global) → f ≡ Operators e os → ⊥) → ((op : Logic) (e : Rc Form Global) (es : Rc (Vec (Rc Form Global) Global) Global) → f ≡ Logical op e es → ⊥) → ((t : Rc Form Global) (a : Rc Form Global) (b : Rc Form Global) → f ≡ If t a b → ⊥) → ((v : Value) (ps : Rc (Vec Piece Global) Global) → f ≡ Template v ps → ⊥) → ((b : Rc Form Global) (ss : Rc (Vec Suffix Global) Global) → f ≡ Suffixes b ss → ⊥) → ((hops : ℕ) (key : Value) (ss : Rc (Vec Suffix Global) Global) → f ≡ SuperMember hops key ss → ⊥) → operation_layer x ≡ false
no_operation_layer f (Form-F.Literal v) q h0 h1 h2 h3 h4 h5 h6 h7 h8 h9 h10 h11 h12 h13 = absurd (h0 v (sym q ∙ rolls-Literal v))
no_operation_layer f (Form-F.Name hops i) q h0 h1 h2 h3 h4 h5 h6 h7 h8 h9 h10 h11 h12 h13 = absurd (h1 hops i (sym q ∙ rolls-Name hops i))
no_operation_layer f (Form-F.ChangeName hops i c) q h0 h1 h2 h3 h4 h5 h6 h7 h8 h9 h10 h11 h12 h13 = absurd (h2 hops i c (sym q ∙ rolls-ChangeName hops i c))
no_operation_layer f (Form-F.ChangeMember o key c) q h0 h1 h2 h3 h4 h5 h6 h7 h8 h9 h10 h11 h12 h13 = absurd (h3 o key c (sym q ∙ rolls-ChangeMember o key c))
no_operation_layer f (Form-F.Delete b ss optional key) q h0 h1 h2 h3 h4 h5 h6 h7 h8 h9 h10 h11 h12 h13 = absurd (h4 b ss optional key (sym q ∙ rolls-Delete b ss optional key))
no_operation_layer f (Form-F.Unary op e) q h0 h1 h2 h3 h4 h5 h6 h7 h8 h9 h10 h11 h12 h13 = absurd (h5 op e (sym q ∙ rolls-Unary op e))
no_operation_layer f (Form-F.Not e) q h0 h1 h2 h3 h4 h5 h6 h7 h8 h9 h10 h11 h12 h13 = absurd (h6 e (sym q ∙ rolls-Not e))
no_operation_layer f (Form-F.Void e) q h0 h1 h2 h3 h4 h5 h6 h7 h8 h9 h10 h11 h12 h13 = absurd (h7 e (sym q ∙ rolls-Void e))
no_operation_layer f (Form-F.Operators e os) q h0 h1 h2 h3 h4 h5 h6 h7 h8 h9 h10 h11 h12 h13 = absurd (h8 e os (sym q ∙ rolls-Operators e os))
no_operation_layer f (Form-F.Logical op e es) q h0 h1 h2 h3 h4 h5 h6 h7 h8 h9 h10 h11 h12 h13 = absurd (h9 op e es (sym q ∙ rolls-Logical op e es))
no_operation_layer f (Form-F.If t a b) q h0 h1 h2 h3 h4 h5 h6 h7 h8 h9 h10 h11 h12 h13 = absurd (h10 t a b (sym q ∙ rolls-If t a b))
no_operation_layer f (Form-F.Template v ps) q h0 h1 h2 h3 h4 h5 h6 h7 h8 h9 h10 h11 h12 h13 = absurd (h11 v ps (sym q ∙ rolls-Template v ps))
no_operation_layer f (Form-F.Suffixes b ss) q h0 h1 h2 h3 h4 h5 h6 h7 h8 h9 h10 h11 h12 h13 = absurd (h12 b ss (sym q ∙ rolls-Suffixes b ss))
no_operation_layer f (Form-F.SuperMember hops key ss) q h0 h1 h2 h3 h4 h5 h6 h7 h8 h9 h10 h11 h12 h13 = absurd (h13 hops key ss (sym q ∙ rolls-SuperMember hops key ss))
no_operation_layer f x q h0 h1 h2 h3 h4 h5 h6 h7 h8 h9 h10 h11 h12 h13 = refl

pub no_operation : (f : Form) → ((v : Value) → f ≡ Literal v → ⊥) → ((hops : ℕ) (i : ℕ) → f ≡ Name hops i → ⊥) → ((hops : ℕ) (i : ℕ) (c : Change) → f ≡ ChangeName hops i c → ⊥) → ((o : Rc Form Global) (key : Key) (c : Change) → f ≡ ChangeMember o key c → ⊥) → ((b : Rc Form Global) (ss : Rc (Vec Suffix Global) Global) (optional : Bool) (key : Key) → f ≡ Delete b ss optional key → ⊥) → ((op : UnaryOp) (e : Rc Form Global) → f ≡ Unary op e → ⊥) → ((e : Rc Form Global) → f ≡ Not e → ⊥) → ((e : Rc Form Global) → f ≡ Void e → ⊥) → ((e : Rc Form Global) (os : Rc (Vec Operand Global) Global) → f ≡ Operators e os → ⊥) → ((op : Logic) (e : Rc Form Global) (es : Rc (Vec (Rc Form Global) Global) Global) → f ≡ Logical op e es → ⊥) → ((t : Rc Form Global) (a : Rc Form Global) (b : Rc Form Global) → f ≡ If t a b → ⊥) → ((v : Value) (ps : Rc (Vec Piece Global) Global) → f ≡ Template v ps → ⊥) → ((b : Rc Form Global) (ss : Rc (Vec Suffix Global) Global) → f ≡ Suffixes b ss → ⊥) → ((hops : ℕ) (key : Value) (ss : Rc (Vec Suffix Global) Global) → f ≡ SuperMember hops key ss → ⊥) → is_operation f ≡ false
unfolding is_operation is_statement
no_operation f h0 h1 h2 h3 h4 h5 h6 h7 h8 h9 h10 h11 h12 h13 = no_operation_layer f (out-Form f) (roll-out-Form f) h0 h1 h2 h3 h4 h5 h6 h7 h8 h9 h10 h11 h12 h13

-- one that is no operation and none of these is a statement
then_statement_layer : (f : Form) (x : Form-F Form Argument Caught Entry Change Key Suffix Pattern Operand Piece Element Property) → roll-Form x ≡ f → operation_layer x ≡ false → ((callee : Rc Form Global) (ms : Rc (Vec Argument Global) Global) → f ≡ New callee ms → ⊥) → ((hops : ℕ) (ms : Rc (Vec Argument Global) Global) → f ≡ SuperCall hops ms → ⊥) → ((ms : Rc (Vec Argument Global) Global) → f ≡ Array ms → ⊥) → ((es : Rc (Vec Entry Global) Global) → f ≡ Object es → ⊥) → ((body : BodyId) → f ≡ Function body → ⊥) → ((body : BodyId) (parent : Option (Rc Form Global)) (key : Value) (ms : Rc (Vec ClassMember Global) Global) → f ≡ Class body parent key ms → ⊥) → ((i : ℕ) (e : Rc Form Global) → f ≡ Init i e → ⊥) → ((x : Rc Pattern Global) (e : Rc Form Global) → f ≡ Bind x e → ⊥) → ((e : Rc Form Global) → f ≡ Yield e → ⊥) → ((e : Rc Form Global) → f ≡ Await e → ⊥) → ((i : ℕ) (x : Rc Element Global) → f ≡ Parameter i x → ⊥) → ((i : ℕ) (x : Rc Pattern Global) → f ≡ RestParameter i x → ⊥) → (f ≡ Begin → ⊥) → statement_layer x ≡ true
then_statement_layer f (Form-F.New callee ms) q g h0 h1 h2 h3 h4 h5 h6 h7 h8 h9 h10 h11 h12 = absurd (h0 callee ms (sym q ∙ rolls-New callee ms))
then_statement_layer f (Form-F.SuperCall hops ms) q g h0 h1 h2 h3 h4 h5 h6 h7 h8 h9 h10 h11 h12 = absurd (h1 hops ms (sym q ∙ rolls-SuperCall hops ms))
then_statement_layer f (Form-F.Array ms) q g h0 h1 h2 h3 h4 h5 h6 h7 h8 h9 h10 h11 h12 = absurd (h2 ms (sym q ∙ rolls-Array ms))
then_statement_layer f (Form-F.Object es) q g h0 h1 h2 h3 h4 h5 h6 h7 h8 h9 h10 h11 h12 = absurd (h3 es (sym q ∙ rolls-Object es))
then_statement_layer f (Form-F.Function body) q g h0 h1 h2 h3 h4 h5 h6 h7 h8 h9 h10 h11 h12 = absurd (h4 body (sym q ∙ rolls-Function body))
then_statement_layer f (Form-F.Class body parent key ms) q g h0 h1 h2 h3 h4 h5 h6 h7 h8 h9 h10 h11 h12 = absurd (h5 body parent key ms (sym q ∙ rolls-Class body parent key ms))
then_statement_layer f (Form-F.Init i e) q g h0 h1 h2 h3 h4 h5 h6 h7 h8 h9 h10 h11 h12 = absurd (h6 i e (sym q ∙ rolls-Init i e))
then_statement_layer f (Form-F.Bind x e) q g h0 h1 h2 h3 h4 h5 h6 h7 h8 h9 h10 h11 h12 = absurd (h7 x e (sym q ∙ rolls-Bind x e))
then_statement_layer f (Form-F.Yield e) q g h0 h1 h2 h3 h4 h5 h6 h7 h8 h9 h10 h11 h12 = absurd (h8 e (sym q ∙ rolls-Yield e))
then_statement_layer f (Form-F.Await e) q g h0 h1 h2 h3 h4 h5 h6 h7 h8 h9 h10 h11 h12 = absurd (h9 e (sym q ∙ rolls-Await e))
then_statement_layer f (Form-F.Parameter i x) q g h0 h1 h2 h3 h4 h5 h6 h7 h8 h9 h10 h11 h12 = absurd (h10 i x (sym q ∙ rolls-Parameter i x))
then_statement_layer f (Form-F.RestParameter i x) q g h0 h1 h2 h3 h4 h5 h6 h7 h8 h9 h10 h11 h12 = absurd (h11 i x (sym q ∙ rolls-RestParameter i x))
then_statement_layer f Form-F.Begin q g h0 h1 h2 h3 h4 h5 h6 h7 h8 h9 h10 h11 h12 = absurd (h12 (sym q ∙ rolls-Begin))
then_statement_layer f (Form-F.Literal v) q g h0 h1 h2 h3 h4 h5 h6 h7 h8 h9 h10 h11 h12 = absurd (cc)
then_statement_layer f (Form-F.Name hops i) q g h0 h1 h2 h3 h4 h5 h6 h7 h8 h9 h10 h11 h12 = absurd (cc)
then_statement_layer f (Form-F.ChangeName hops i c) q g h0 h1 h2 h3 h4 h5 h6 h7 h8 h9 h10 h11 h12 = absurd (cc)
then_statement_layer f (Form-F.ChangeMember o key c) q g h0 h1 h2 h3 h4 h5 h6 h7 h8 h9 h10 h11 h12 = absurd (cc)
then_statement_layer f (Form-F.Delete b ss optional key) q g h0 h1 h2 h3 h4 h5 h6 h7 h8 h9 h10 h11 h12 = absurd (cc)
then_statement_layer f (Form-F.Unary op e) q g h0 h1 h2 h3 h4 h5 h6 h7 h8 h9 h10 h11 h12 = absurd (cc)
then_statement_layer f (Form-F.Not e) q g h0 h1 h2 h3 h4 h5 h6 h7 h8 h9 h10 h11 h12 = absurd (cc)
then_statement_layer f (Form-F.Void e) q g h0 h1 h2 h3 h4 h5 h6 h7 h8 h9 h10 h11 h12 = absurd (cc)
then_statement_layer f (Form-F.Operators e os) q g h0 h1 h2 h3 h4 h5 h6 h7 h8 h9 h10 h11 h12 = absurd (cc)
then_statement_layer f (Form-F.Logical op e es) q g h0 h1 h2 h3 h4 h5 h6 h7 h8 h9 h10 h11 h12 = absurd (cc)
then_statement_layer f (Form-F.If t a b) q g h0 h1 h2 h3 h4 h5 h6 h7 h8 h9 h10 h11 h12 = absurd (cc)
then_statement_layer f (Form-F.Template v ps) q g h0 h1 h2 h3 h4 h5 h6 h7 h8 h9 h10 h11 h12 = absurd (cc)
then_statement_layer f (Form-F.Suffixes b ss) q g h0 h1 h2 h3 h4 h5 h6 h7 h8 h9 h10 h11 h12 = absurd (cc)
then_statement_layer f (Form-F.SuperMember hops key ss) q g h0 h1 h2 h3 h4 h5 h6 h7 h8 h9 h10 h11 h12 = absurd (cc)
then_statement_layer f x q g h0 h1 h2 h3 h4 h5 h6 h7 h8 h9 h10 h11 h12 = refl

pub then_statement : (f : Form) → is_operation f ≡ false → ((callee : Rc Form Global) (ms : Rc (Vec Argument Global) Global) → f ≡ New callee ms → ⊥) → ((hops : ℕ) (ms : Rc (Vec Argument Global) Global) → f ≡ SuperCall hops ms → ⊥) → ((ms : Rc (Vec Argument Global) Global) → f ≡ Array ms → ⊥) → ((es : Rc (Vec Entry Global) Global) → f ≡ Object es → ⊥) → ((body : BodyId) → f ≡ Function body → ⊥) → ((body : BodyId) (parent : Option (Rc Form Global)) (key : Value) (ms : Rc (Vec ClassMember Global) Global) → f ≡ Class body parent key ms → ⊥) → ((i : ℕ) (e : Rc Form Global) → f ≡ Init i e → ⊥) → ((x : Rc Pattern Global) (e : Rc Form Global) → f ≡ Bind x e → ⊥) → ((e : Rc Form Global) → f ≡ Yield e → ⊥) → ((e : Rc Form Global) → f ≡ Await e → ⊥) → ((i : ℕ) (x : Rc Element Global) → f ≡ Parameter i x → ⊥) → ((i : ℕ) (x : Rc Pattern Global) → f ≡ RestParameter i x → ⊥) → (f ≡ Begin → ⊥) → is_statement f ≡ true
unfolding is_operation is_statement
then_statement f g h0 h1 h2 h3 h4 h5 h6 h7 h8 h9 h10 h11 h12 = then_statement_layer f (out-Form f) (roll-out-Form f) g h0 h1 h2 h3 h4 h5 h6 h7 h8 h9 h10 h11 h12

-- and there are no other statements
no_other_layer : (f : Form) (x : Form-F Form Argument Caught Entry Change Key Suffix Pattern Operand Piece Element Property) → roll-Form x ≡ f → statement_layer x ≡ true → ((es : Rc (Vec (Rc Form Global) Global) Global) → f ≡ Sequence es → ⊥) → ((n : ℕ) (fs : Rc (Vec Declared Global) Global) (e : Rc Form Global) → f ≡ Block n fs e → ⊥) → ((t : Rc Form Global) (b : Rc Form Global) → f ≡ While t b → ⊥) → ((b : Rc Form Global) (t : Rc Form Global) → f ≡ DoWhile b t → ⊥) → ((e : Rc Form Global) (t : Rc Form Global) (u : Rc Form Global) (b : Rc Form Global) → f ≡ For e t u b → ⊥) → ((n : ℕ) (e : Rc Form Global) (t : Rc Form Global) (u : Rc Form Global) (b : Rc Form Global) → f ≡ ForLet n e t u b → ⊥) → ((n : ℕ) (x : Rc Pattern Global) (e : Rc Form Global) (b : Rc Form Global) → f ≡ ForOf n x e b → ⊥) → ((n : ℕ) → f ≡ Break n → ⊥) → ((n : ℕ) → f ≡ Continue n → ⊥) → ((e : Rc Form Global) → f ≡ Return e → ⊥) → ((e : Rc Form Global) → f ≡ Throw e → ⊥) → ((b : Rc Form Global) (c : Option (Rc Caught Global)) (d : Option (Rc Form Global)) → f ≡ Try b c d → ⊥) → ⊥
no_other_layer f (Form-F.Sequence es) q g h0 h1 h2 h3 h4 h5 h6 h7 h8 h9 h10 h11 = h0 es (sym q ∙ rolls-Sequence es)
no_other_layer f (Form-F.Block n fs e) q g h0 h1 h2 h3 h4 h5 h6 h7 h8 h9 h10 h11 = h1 n fs e (sym q ∙ rolls-Block n fs e)
no_other_layer f (Form-F.While t b) q g h0 h1 h2 h3 h4 h5 h6 h7 h8 h9 h10 h11 = h2 t b (sym q ∙ rolls-While t b)
no_other_layer f (Form-F.DoWhile b t) q g h0 h1 h2 h3 h4 h5 h6 h7 h8 h9 h10 h11 = h3 b t (sym q ∙ rolls-DoWhile b t)
no_other_layer f (Form-F.For e t u b) q g h0 h1 h2 h3 h4 h5 h6 h7 h8 h9 h10 h11 = h4 e t u b (sym q ∙ rolls-For e t u b)
no_other_layer f (Form-F.ForLet n e t u b) q g h0 h1 h2 h3 h4 h5 h6 h7 h8 h9 h10 h11 = h5 n e t u b (sym q ∙ rolls-ForLet n e t u b)
no_other_layer f (Form-F.ForOf n x e b) q g h0 h1 h2 h3 h4 h5 h6 h7 h8 h9 h10 h11 = h6 n x e b (sym q ∙ rolls-ForOf n x e b)
no_other_layer f (Form-F.Break n) q g h0 h1 h2 h3 h4 h5 h6 h7 h8 h9 h10 h11 = h7 n (sym q ∙ rolls-Break n)
no_other_layer f (Form-F.Continue n) q g h0 h1 h2 h3 h4 h5 h6 h7 h8 h9 h10 h11 = h8 n (sym q ∙ rolls-Continue n)
no_other_layer f (Form-F.Return e) q g h0 h1 h2 h3 h4 h5 h6 h7 h8 h9 h10 h11 = h9 e (sym q ∙ rolls-Return e)
no_other_layer f (Form-F.Throw e) q g h0 h1 h2 h3 h4 h5 h6 h7 h8 h9 h10 h11 = h10 e (sym q ∙ rolls-Throw e)
no_other_layer f (Form-F.Try b c d) q g h0 h1 h2 h3 h4 h5 h6 h7 h8 h9 h10 h11 = h11 b c d (sym q ∙ rolls-Try b c d)
no_other_layer f x q g h0 h1 h2 h3 h4 h5 h6 h7 h8 h9 h10 h11 = cc

pub no_other : (f : Form) → is_statement f ≡ true → ((es : Rc (Vec (Rc Form Global) Global) Global) → f ≡ Sequence es → ⊥) → ((n : ℕ) (fs : Rc (Vec Declared Global) Global) (e : Rc Form Global) → f ≡ Block n fs e → ⊥) → ((t : Rc Form Global) (b : Rc Form Global) → f ≡ While t b → ⊥) → ((b : Rc Form Global) (t : Rc Form Global) → f ≡ DoWhile b t → ⊥) → ((e : Rc Form Global) (t : Rc Form Global) (u : Rc Form Global) (b : Rc Form Global) → f ≡ For e t u b → ⊥) → ((n : ℕ) (e : Rc Form Global) (t : Rc Form Global) (u : Rc Form Global) (b : Rc Form Global) → f ≡ ForLet n e t u b → ⊥) → ((n : ℕ) (x : Rc Pattern Global) (e : Rc Form Global) (b : Rc Form Global) → f ≡ ForOf n x e b → ⊥) → ((n : ℕ) → f ≡ Break n → ⊥) → ((n : ℕ) → f ≡ Continue n → ⊥) → ((e : Rc Form Global) → f ≡ Return e → ⊥) → ((e : Rc Form Global) → f ≡ Throw e → ⊥) → ((b : Rc Form Global) (c : Option (Rc Caught Global)) (d : Option (Rc Form Global)) → f ≡ Try b c d → ⊥) → ⊥
unfolding is_operation is_statement
no_other f g h0 h1 h2 h3 h4 h5 h6 h7 h8 h9 h10 h11 = no_other_layer f (out-Form f) (roll-out-Form f) g h0 h1 h2 h3 h4 h5 h6 h7 h8 h9 h10 h11
