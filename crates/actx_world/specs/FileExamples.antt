-- Worked runs of files with several functions and classes.
use Rattle.std.specs.Prelude.{◌≡◌, ℕ, pos, true, false, List, [], ◌∷◌, codes, Option, Some, None}
use Rattle.actx_value.specs.declared.operator.BinaryOp.TheVariants.{StrictlyEqual, InstanceOf}
use Rattle.actx_value.specs.declared.operator.UnaryOp.TheVariants.{TypeOf}
use Rattle.actx_value.specs.declared.value.Value.TheVariants.{Undefined, Null, Num}
use Rattle.actx_code.specs.declared.body.Body.{Body}
use Rattle.actx_code.specs.declared.body.BodyKind.TheVariants.{Function, Arrow, Method, Class, DerivedClass}
use Rattle.actx_code.specs.declared.form.Form.{Form}
use Rattle.actx_code.specs.declared.item.ClassMember.{ClassMember}
use Rattle.actx_want.specs.Run.{Meaning}
use Rattle.actx_want.specs.Names.{name, changed_plainly}
use Rattle.actx_want.specs.Operators.{unary, operand, operators}
use Rattle.actx_want.specs.Members.{plain, change_member, member, suffixes, super_member}
use Rattle.actx_want.specs.Lists.{Listed, single, array, object, pair, method}
use Rattle.actx_want.specs.Calls.{call, new, super_call}
use Rattle.actx_want.specs.Functions.{function, parameter}
use Rattle.actx_want.specs.Patterns.{slot}
use Rattle.actx_want.specs.Classes.{class}
use Rattle.actx_want.specs.Statements.{sequence, init, block, returned}
use Rattle.actx_want.specs.Examples.{literal}
use Rattle.actx_world.specs.Worlds.{Last, printed}
use Rattle.actx_world.specs.SmallStore.{small_limits, body}
use Rattle.actx_world.specs.Examples.{run, end_within, finished, body_number, text_number, file}

-- the end of a run with a budget of 80 moves
abbrev pub end : List Body → List Meaning → Last
end bodies meanings = end_within small_limits bodies meanings 80

-- ---- shorter words for what stands in a file

-- a call of a value, and of its member
abbrev called : Meaning → List Listed → Meaning
called f arguments = suffixes f (call false arguments ∷ [])

abbrev member_called : Meaning → ℕ → List Listed → Meaning
member_called o key arguments = suffixes o (member false (plain (text_number key)) ∷ call false arguments ∷ [])

abbrev member_of : Meaning → ℕ → Meaning
member_of o key = suffixes o (member false (plain (text_number key)) ∷ [])

-- `console.log(..)` in the block of a file
abbrev logged : List Listed → Meaning
logged arguments = member_called (name 1 0) 16 arguments

abbrev number : ℕ → Meaning
number n = literal (Num (pos n))

-- a class whose constructor is this body, with at most one method
abbrev class_of : ℕ → Option Meaning → List ClassMember → Meaning
class_of constructor parent members = class (body_number constructor) parent (text_number 2) members

-- ---- class A { v() { return 1; } }
-- ---- class B extends A { constructor() { const f = () => super(); f(); this.k = (() => super.v())(); } } console.log(new B());
-- ---- class D extends A { constructor() { super(); return { k: 1 }; } } console.log(new D());

abbrev pub super_bodies : Form → List Body
super_bodies form =
    file form ∷ body form Class 8 true 3 ∷ body form Method 17 true 3 ∷ body form DerivedClass 8 true 3
    ∷ body form Arrow 0 false 0 ∷ body form Arrow 0 false 0 ∷ body form DerivedClass 8 true 3 ∷ []

abbrev pub super_meanings : List Meaning
super_meanings =
    block 3 [] (sequence (
    init 0 (class_of 1 None (record { is_static = false; key = text_number 17; body = body_number 2 } ∷ []))
    ∷ init 1 (class_of 3 (Some (name 0 0)) [])
    ∷ logged (single (new (name 0 1) []) ∷ [])
    ∷ init 2 (class_of 6 (Some (name 0 0)) [])
    ∷ logged (single (new (name 0 2) []) ∷ [])
    ∷ []))
    ∷ sequence []
    ∷ returned (number 1)
    ∷ block 1 [] (sequence (
    init 0 (function (body_number 4))
    ∷ called (name 0 0) []
    ∷ change_member (name 1 0) (plain (text_number 18)) (changed_plainly (called (function (body_number 5)) []))
    ∷ []))
    ∷ returned (super_call 2 [])
    ∷ returned (super_member 2 (text_number 17) (call false [] ∷ []))
    ∷ sequence (super_call 0 [] ∷ returned (object (pair (plain (text_number 18)) (number 1) ∷ [])) ∷ [])
    ∷ []

-- ---- function P(x) { this.n = x; } P.prototype.get = function () { return this.n; }; const p = new P(5);
-- ---- console.log(p.get(), p instanceof P, p);
-- ---- function Q() { return [1]; } console.log(new Q(), new (P.bind(null, 9))().n);

abbrev pub constructor_bodies : Form → List Body
constructor_bodies form =
    file form ∷ body form Function 8 true 4 ∷ body form Function 9 true 3 ∷ body form Function 0 true 3 ∷ []

abbrev pub constructor_meanings : List Meaning
constructor_meanings =
    block 3 (record { slot = 0; body = body_number 1 } ∷ record { slot = 1; body = body_number 2 } ∷ []) (sequence (
    change_member (member_of (name 0 0) 2) (plain (text_number 19)) (changed_plainly (function (body_number 3)))
    ∷ init 2 (new (name 0 0) (single (number 5) ∷ []))
    ∷ logged (single (member_called (name 0 2) 19 []) ∷ single (operators (name 0 2) (operand InstanceOf (name 0 0) ∷ [])) ∷ single (name 0 2) ∷ [])
    ∷ logged (single (new (name 0 1) []) ∷ single (member_of (new (member_called (name 0 0) 13 (single (literal Null) ∷ single (number 9) ∷ [])) []) 9) ∷ [])
    ∷ []))
    ∷ sequence (parameter 0 (slot 3) ∷ change_member (name 0 0) (plain (text_number 9)) (changed_plainly (name 0 3)) ∷ [])
    ∷ returned (array (single (number 1) ∷ []))
    ∷ returned (member_of (name 0 0) 9)
    ∷ []

-- ---- function f() { return this; } const o = { v: f, k: () => typeof this, get() { return (() => this)() === o; } };
-- ---- console.log(f(), o.v() === o, o.get(), f.call(5), f.apply(null), f.bind('n')());

abbrev pub this_bodies : Form → List Body
this_bodies form =
    file form ∷ body form Function 8 true 3 ∷ body form Arrow 0 false 0 ∷ body form Method 19 true 3 ∷ body form Arrow 0 false 0 ∷ []

abbrev equal : Meaning → Meaning → Meaning
equal a b = operators a (operand StrictlyEqual b ∷ [])

abbrev pub this_meanings : List Meaning
this_meanings =
    block 2 (record { slot = 0; body = body_number 1 } ∷ []) (sequence (
    init 1 (object (
    pair (plain (text_number 17)) (name 0 0)
    ∷ pair (plain (text_number 18)) (function (body_number 2))
    ∷ method (plain (text_number 19)) (body_number 3)
    ∷ []))
    ∷ logged (
    single (called (name 0 0) [])
    ∷ single (equal (member_called (name 0 1) 17 []) (name 0 1))
    ∷ single (member_called (name 0 1) 19 [])
    ∷ single (member_called (name 0 0) 11 (single (number 5) ∷ []))
    ∷ single (member_called (name 0 0) 12 (single (literal Null) ∷ []))
    ∷ single (called (member_called (name 0 0) 13 (single (literal (text_number 9)) ∷ [])) [])
    ∷ [])
    ∷ []))
    ∷ returned (name 0 0)
    ∷ returned (unary TypeOf (literal Undefined))
    ∷ returned (equal (called (function (body_number 4)) []) (name 1 1))
    ∷ returned (name 1 0)
    ∷ []

-- ---- how they end, and what they print; `?` is an object

pub record FilesRun (form : Form) : Type 0 where
  pub with_super : end (super_bodies form) super_meanings ≡ finished 67
  pub with_super_prints : printed (run (super_bodies form) super_meanings 67).events ≡ codes "?\n?\n"
  pub with_constructors : end (constructor_bodies form) constructor_meanings ≡ finished 60
  pub with_constructors_prints : printed (run (constructor_bodies form) constructor_meanings 60).events ≡ codes "5 true ?\n? 9\n"
  pub with_this : end (this_bodies form) this_meanings ≡ finished 68
  pub with_this_prints : printed (run (this_bodies form) this_meanings 68).events ≡ codes "undefined true true 5 null n\n"
