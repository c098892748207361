-- Statements, bodies and files: where names are resolved by uses, they follow what they are by scopes.
use Rattle.std.proofs.Common.{◌≡◌, refl, sym, ap, subst, ◌∙◌, ℕ, ◌+◌, ◌==◌, Bool, true, false, if◌then◌else◌, List, [], ◌∷◌, ◌++◌, length, map, Option, Some, None}
use Rattle.std.specs.Option.{option_map}
use Rattle.actx_tree.specs.declared.expr.Expr.{Expr}
use Rattle.actx_tree.specs.declared.function.Class.{Class}
use Rattle.actx_tree.specs.declared.function.Function.{Function}
use Rattle.actx_tree.specs.declared.function.Unread.{Unread}
use Rattle.actx_tree.specs.declared.pattern.Elem.{Elem}
use Rattle.actx_tree.specs.declared.pattern.Target.{Target}
use Rattle.actx_tree.specs.declared.stmt.Catch.{Catch, Catch-F}
use Rattle.actx_tree.specs.declared.stmt.ForInit.{ForInit}
use Rattle.actx_tree.specs.declared.stmt.ForInit.TheVariants as init
use Rattle.actx_tree.specs.declared.stmt.Stmt.{Stmt, Stmt-F}
use Rattle.actx_tree.specs.declared.stmt.Stmt.TheFolds.{ind-Stmt, map-Stmt, map-Catch, fold-roll-Stmt, fold-roll-Catch}
use Rattle.actx_tree.specs.declared.stmt.Stmt.TheViews.{roll-Stmt, roll-Catch}
use Rattle.actx_tree.specs.declared.tree.BodyTree.{BodyTree}
use Rattle.actx_scope_rules.specs.Early.{token_count}
use Rattle.actx_scope_rules.specs.Scopes.{Scope, slots_of}
use Rattle.actx_core.specs.declared.core_form.Core.{Core}
use Rattle.actx_core.specs.declared.core_form.Core.TheVariants as forms
use Rattle.actx_core.specs.declared.core_parts.CoreCaught.{CoreCaught}
use Rattle.actx_core.specs.declared.core_parts.CoreCaught.TheVariants as caught
use Rattle.actx_core.specs.Making.{Making, just, of1, of2, undefined, numbered}
use Rattle.actx_core.specs.Names.{by_scopes, by_uses, scoped}
use Rattle.actx_core.specs.Functions.{Inside, Function as MadeFunction, Class as MadeClass, as_one}
use Rattle.actx_core.specs.Patterns.{Target as Bound, Elem as Binding, elem_names, listed, declared_from}
use Rattle.actx_core.specs.Expressions.{expression, function_of, class_of, target_of, elem_of}
use Rattle.actx_core.specs.Statements.{Forms, Statement, only, plain, nothing, all_slots, joined, in_order, as_block, block, block_form, as_part, part_or_undefined, function_declared, class_declared, let_declared, for_form, of_form, bound_form, caught_form, expr_made, or_true_of, or_undefined_of, elems_made, for_init_slots, for_init_form, stmt_step, catch_step, statement, handler_of, items_made}
use Rattle.actx_core.specs.Lowering.{items_of, file_body, file_made, tree_made}
use Rattle.actx_core.specs.Laws.{Follows, TreesFollow}
use Rattle.actx_core.proofs.Follow.{Lists, ends, more, Options, absent, present, just_follows, of1_follows, of2_follows, of3_follows, of4_follows, maybe_follows, or_undefined_follows, or_true_follows, numbered_follows, scoped_follows}
use Rattle.actx_core.proofs.FollowParts.{RFunction, RClass, RTarget, RElem, RInside, elem_names_same, declared_follow}
use Rattle.actx_core.proofs.FollowExprs.{expr_follows, function_follows, class_follows, target_follows, elem_follows}

pub record RStatement (s t : Statement) : Type 0 where
  pub slots : s.slots ≡ t.slots
  pub made : (slot : ℕ) → Follows (s.made slot) (t.made slot)

plain_statement : {x y : Making Core} → Follows x y → RStatement (plain x) (plain y)
plain_statement h = record { slots = refl; made = λ slot. of1_follows (λ y. only (y ∷ [])) h }

-- ---- statements in a row

all_slots_same : {ss tt : List Statement} → Lists RStatement ss tt → all_slots ss ≡ all_slots tt
all_slots_same ends = refl
all_slots_same (more {x = s} {y = t} {xs = ss} {ys = tt} h hs) = ap (λ z. z ++ all_slots ss) h.slots ∙ ap (λ z. t.slots ++ z) (all_slots_same hs)

in_order_follows : {ss tt : List Statement} → Lists RStatement ss tt → (slot : ℕ) → Follows (in_order ss slot) (in_order tt slot)
unfolding in_order
in_order_follows ends slot = just_follows (only [])
in_order_follows (more {x = s} {y = t} {xs = ss} {ys = tt} h hs) slot =
    subst (λ z. Follows (in_order (s ∷ ss) slot) (of2 joined (t.made slot) (in_order tt (slot + length z)))) h.slots
    (of2_follows joined (h.made slot) (in_order_follows hs (slot + length s.slots)))

block_follows : {ss tt : List Statement} → Lists RStatement ss tt → Follows (block by_scopes ss) (block by_uses tt)
block_follows {ss} {tt} hs =
    subst (λ z. Follows (block by_scopes ss) (of1 (as_block z) (scoped by_uses z (in_order tt 0)))) (all_slots_same hs)
    (of1_follows (as_block (all_slots ss)) (scoped_follows (all_slots ss) (in_order_follows hs 0)))

block_form_follows : {ss tt : List Statement} → Lists RStatement ss tt → Follows (block_form by_scopes ss) (block_form by_uses tt)
block_form_follows hs = of1_follows as_one (block_follows hs)

part_follows : {s t : Statement} → RStatement s t → Follows (as_part s) (as_part t)
part_follows h = of1_follows (λ (x : Forms). as_one x.items) (h.made 0)

part_or_follows : {s t : Option Statement} → Options RStatement s t → Follows (part_or_undefined s) (part_or_undefined t)
part_or_follows absent = just_follows undefined
part_or_follows (present h) = part_follows h

-- ---- declarations and heads

function_statement : {f g : MadeFunction} → RFunction f g → RStatement (function_declared f) (function_declared g)
function_statement h = record { slots = ap (λ n. slots_of true (listed n)) h.name; made = λ slot. of1_follows (λ body. record { functions = record { slot = slot; body = body } ∷ []; items = [] }) h.declaration }

class_statement : {c d : MadeClass} → RClass c d → RStatement (class_declared c) (class_declared d)
class_statement h = record { slots = ap (λ n. slots_of true (listed n)) h.name; made = λ slot. of1_follows (λ x. only (forms.Init slot x ∷ [])) h.declaration }

let_statement : (is_const : Bool) {es fs : List Binding} → Lists RElem es fs → RStatement (let_declared is_const es) (let_declared is_const fs)
let_statement is_const hs = record { slots = ap (slots_of is_const) (elem_names_same hs); made = λ slot. of1_follows only (declared_follow hs slot) }

for_at : (slots : Scope) {a a' b b' c c' d d' : Making Core} → Follows a a' → Follows b b' → Follows c c' → Follows d d' → Follows (for_form by_scopes slots a b c d) (for_form by_uses slots a' b' c' d')
for_at [] h k l m = of4_follows forms.For h k l m
for_at (slot ∷ slots) h k l m = scoped_follows (slot ∷ slots) (of4_follows (forms.ForLet (length (slot ∷ slots))) h k l m)

of_at : (slots : Scope) {t u : Bound} → RTarget t u → {x x' y y' : Making Core} → Follows x x' → Follows y y' → Follows (of_form by_scopes slots t x y) (of_form by_uses slots u x' y')
of_at slots h k l = of3_follows (forms.ForOf (length slots)) (scoped_follows slots (h.pattern 0)) k (scoped_follows slots l)

bound_follows : {t u : Bound} → RTarget t u → {x y : Making Core} → Follows x y → Follows (bound_form by_scopes t x) (bound_form by_uses u y)
bound_follows {t} {u} h {x} {y} k =
    let slots : Scope = slots_of false t.names in
    subst (λ ns. Follows (bound_form by_scopes t x) (scoped by_uses (slots_of false ns) (of2 (caught.Bound (length (slots_of false ns))) (u.pattern 0) y))) h.names
    (scoped_follows slots (of2_follows (caught.Bound (length slots)) (h.pattern 0) k))

caught_follows : {t u : Option Bound} → Options RTarget t u → {x y : Making Core} → Follows x y → Follows (caught_form by_scopes t x) (caught_form by_uses u y)
caught_follows absent k = of1_follows caught.Unbound k
caught_follows (present h) k = bound_follows h k

-- statements that correspond, in a list
with_statements : {T : Type 0} (f g : T → Statement) (es : List ((x : T) × RStatement (f x) (g x))) → Lists RStatement (map f (map (λ e. e.0) es)) (map g (map (λ e. e.0) es))
with_statements f g [] = ends
with_statements f g (e ∷ es) = more e.1 (with_statements f g es)

module _ (i j : Inside) (inside : RInside i j) where
  value_follows : (x : Expr) → Follows (expr_made by_scopes i x) (expr_made by_uses j x)
  value_follows x = (expr_follows i j inside x).named []

  values_follow : (x : Option Expr) → Options Follows (option_map (expr_made by_scopes i) x) (option_map (expr_made by_uses j) x)
  values_follow None = absent
  values_follow (Some x) = present (value_follows x)

  elems_follow : (es : List Elem) → Lists RElem (elems_made by_scopes i es) (elems_made by_uses j es)
  elems_follow [] = ends
  elems_follow (e ∷ es) = more (elem_follows i j inside e) (elems_follow es)

  targets_follow : (t : Option Target) → Options RTarget (option_map (target_of by_scopes i) t) (option_map (target_of by_uses j) t)
  targets_follow None = absent
  targets_follow (Some t) = present (target_follows i j inside t)

  init_slots_same : (x : ForInit) → for_init_slots by_scopes i x ≡ for_init_slots by_uses j x
  init_slots_same init.Nothing = refl
  init_slots_same (init.Let is_const elems) = ap (slots_of is_const) (elem_names_same (elems_follow elems))
  init_slots_same (init.Expr x) = refl

  init_follows : (x : ForInit) → Follows (for_init_form by_scopes i x) (for_init_form by_uses j x)
  init_follows init.Nothing = just_follows undefined
  init_follows (init.Let is_const elems) = of1_follows as_one (declared_follow (elems_follow elems) 0)
  init_follows (init.Expr x) = value_follows x

  -- ---- statements

  abbrev StmtFollows : Stmt → Type 0
  StmtFollows x = RStatement (statement by_scopes i x) (statement by_uses j x)

  abbrev CatchFollows : Catch → Type 0
  CatchFollows x = Follows (handler_of by_scopes i x) (handler_of by_uses j x)

  abbrev StmtWith : Type 0
  StmtWith = (x : Stmt) × StmtFollows x

  abbrev CatchWith : Type 0
  CatchWith = (x : Catch) × CatchFollows x

  abbrev bare_stmt : Stmt-F StmtWith CatchWith → Stmt-F Stmt Catch
  bare_stmt y = map-Stmt StmtWith CatchWith Stmt Catch (λ e. e.0) (λ e. e.0) y

  abbrev made_stmt : Stmt-F Stmt Catch → Stmt-F Statement (Making CoreCaught)
  made_stmt y = map-Stmt Stmt Catch Statement (Making CoreCaught) (statement by_scopes i) (handler_of by_scopes i) y

  abbrev used_stmt : Stmt-F Stmt Catch → Stmt-F Statement (Making CoreCaught)
  used_stmt y = map-Stmt Stmt Catch Statement (Making CoreCaught) (statement by_uses j) (handler_of by_uses j) y

  abbrev bare_catch : Catch-F StmtWith CatchWith → Catch-F Stmt Catch
  bare_catch y = map-Catch StmtWith CatchWith Stmt Catch (λ e. e.0) (λ e. e.0) y

  abbrev made_catch : Catch-F Stmt Catch → Catch-F Statement (Making CoreCaught)
  made_catch y = map-Catch Stmt Catch Statement (Making CoreCaught) (statement by_scopes i) (handler_of by_scopes i) y

  abbrev used_catch : Catch-F Stmt Catch → Catch-F Statement (Making CoreCaught)
  used_catch y = map-Catch Stmt Catch Statement (Making CoreCaught) (statement by_uses j) (handler_of by_uses j) y

  for_follows : (first : ForInit) (test update : Option Expr) {s t : Statement} → RStatement s t
      → Follows (for_form by_scopes (for_init_slots by_scopes i first) (for_init_form by_scopes i first) (or_true_of by_scopes i test) (or_undefined_of by_scopes i update) (as_part s))
      (for_form by_uses (for_init_slots by_uses j first) (for_init_form by_uses j first) (or_true_of by_uses j test) (or_undefined_of by_uses j update) (as_part t))
  for_follows first test update {s} {t} h =
      subst (λ z. Follows (for_form by_scopes (for_init_slots by_scopes i first) (for_init_form by_scopes i first) (or_true_of by_scopes i test) (or_undefined_of by_scopes i update) (as_part s))
      (for_form by_uses z (for_init_form by_uses j first) (or_true_of by_uses j test) (or_undefined_of by_uses j update) (as_part t))) (init_slots_same first)
      (for_at (for_init_slots by_scopes i first) (init_follows first) (or_true_follows (values_follow test)) (or_undefined_follows (values_follow update)) (part_follows h))

  of_follows : (is_const : Bool) (target : Target) (x : Expr) {s t : Statement} → RStatement s t
      → Follows (of_form by_scopes (slots_of is_const (target_of by_scopes i target).names) (target_of by_scopes i target) (expr_made by_scopes i x) (as_part s))
      (of_form by_uses (slots_of is_const (target_of by_uses j target).names) (target_of by_uses j target) (expr_made by_uses j x) (as_part t))
  of_follows is_const target x {s} {t} h = let r = target_follows i j inside target in
      subst (λ ns. Follows (of_form by_scopes (slots_of is_const (target_of by_scopes i target).names) (target_of by_scopes i target) (expr_made by_scopes i x) (as_part s))
      (of_form by_uses (slots_of is_const ns) (target_of by_uses j target) (expr_made by_uses j x) (as_part t))) r.names
      (of_at (slots_of is_const (target_of by_scopes i target).names) r (value_follows x) (part_follows h))

  stmt_step_follows : (y : Stmt-F StmtWith CatchWith) → RStatement (stmt_step by_scopes i (made_stmt (bare_stmt y))) (stmt_step by_uses j (used_stmt (bare_stmt y)))
  stmt_step_follows (Stmt-F.Let is_const elems) = let_statement is_const (elems_follow elems)
  stmt_step_follows (Stmt-F.Function f) = function_statement (function_follows i j inside f)
  stmt_step_follows (Stmt-F.Class c) = class_statement (class_follows i j inside c)
  stmt_step_follows (Stmt-F.Block items) = record { slots = refl; made = λ slot. of1_follows only (block_follows (with_statements (statement by_scopes i) (statement by_uses j) items)) }
  stmt_step_follows Stmt-F.Empty = record { slots = refl; made = λ slot. just_follows (only []) }
  stmt_step_follows (Stmt-F.If test body None) = plain_statement (of3_follows forms.If (value_follows test) (part_follows body.1) (part_or_follows absent))
  stmt_step_follows (Stmt-F.If test body (Some other)) = plain_statement (of3_follows forms.If (value_follows test) (part_follows body.1) (part_or_follows (present other.1)))
  stmt_step_follows (Stmt-F.While test body) = plain_statement (of2_follows forms.While (value_follows test) (part_follows body.1))
  stmt_step_follows (Stmt-F.Do body test) = plain_statement (of2_follows forms.DoWhile (part_follows body.1) (value_follows test))
  stmt_step_follows (Stmt-F.For first test update body) = plain_statement (for_follows first test update body.1)
  stmt_step_follows (Stmt-F.ForOf is_const target x body) = plain_statement (of_follows is_const target x body.1)
  stmt_step_follows (Stmt-F.Return x) = plain_statement (of1_follows forms.Return (or_undefined_follows (values_follow x)))
  stmt_step_follows (Stmt-F.Throw x) = plain_statement (of1_follows forms.Throw (value_follows x))
  stmt_step_follows Stmt-F.Break = plain_statement (just_follows (forms.Break 0))
  stmt_step_follows Stmt-F.Continue = plain_statement (just_follows (forms.Continue 0))
  stmt_step_follows (Stmt-F.Try items None None) = plain_statement (of3_follows forms.Try (block_form_follows (with_statements (statement by_scopes i) (statement by_uses j) items)) (maybe_follows absent) (maybe_follows absent))
  stmt_step_follows (Stmt-F.Try items (Some handler) None) = plain_statement (of3_follows forms.Try (block_form_follows (with_statements (statement by_scopes i) (statement by_uses j) items)) (maybe_follows (present handler.1)) (maybe_follows absent))
  stmt_step_follows (Stmt-F.Try items None (Some last)) = plain_statement (of3_follows forms.Try (block_form_follows (with_statements (statement by_scopes i) (statement by_uses j) items)) (maybe_follows absent) (maybe_follows (present (block_form_follows (with_statements (statement by_scopes i) (statement by_uses j) last)))))
  stmt_step_follows (Stmt-F.Try items (Some handler) (Some last)) = plain_statement (of3_follows forms.Try (block_form_follows (with_statements (statement by_scopes i) (statement by_uses j) items)) (maybe_follows (present handler.1)) (maybe_follows (present (block_form_follows (with_statements (statement by_scopes i) (statement by_uses j) last)))))
  stmt_step_follows (Stmt-F.Expr x) = plain_statement (value_follows x)

  catch_step_follows : (y : Catch-F StmtWith CatchWith) → Follows (catch_step by_scopes i (made_catch (bare_catch y))) (catch_step by_uses j (used_catch (bare_catch y)))
  catch_step_follows y = caught_follows (targets_follow y.target) (block_form_follows (with_statements (statement by_scopes i) (statement by_uses j) y.block))

  stmt_case : (y : Stmt-F StmtWith CatchWith) → StmtFollows (roll-Stmt (bare_stmt y))
  unfolding statement handler_of
  stmt_case y = subst (λ z. RStatement z (statement by_uses j (roll-Stmt (bare_stmt y)))) (sym (fold-roll-Stmt Statement (Making CoreCaught) (stmt_step by_scopes i) (catch_step by_scopes i) (bare_stmt y)))
      (subst (λ z. RStatement (stmt_step by_scopes i (made_stmt (bare_stmt y))) z) (sym (fold-roll-Stmt Statement (Making CoreCaught) (stmt_step by_uses j) (catch_step by_uses j) (bare_stmt y))) (stmt_step_follows y))

  catch_case : (y : Catch-F StmtWith CatchWith) → CatchFollows (roll-Catch (bare_catch y))
  unfolding statement handler_of
  catch_case y = subst (λ z. Follows z (handler_of by_uses j (roll-Catch (bare_catch y)))) (sym (fold-roll-Catch Statement (Making CoreCaught) (stmt_step by_scopes i) (catch_step by_scopes i) (bare_catch y)))
      (subst (λ z. Follows (catch_step by_scopes i (made_catch (bare_catch y))) z) (sym (fold-roll-Catch Statement (Making CoreCaught) (stmt_step by_uses j) (catch_step by_uses j) (bare_catch y))) (catch_step_follows y))

  pub stmt_follows : (x : Stmt) → StmtFollows x
  stmt_follows = ind-Stmt StmtFollows CatchFollows
      (λ x y is. subst (λ z. StmtFollows (roll-Stmt z)) is (stmt_case y))
      (λ x y is. subst (λ z. CatchFollows (roll-Catch z)) is (catch_case y))

  stmts_follow : (xs : List Stmt) → Lists RStatement (map (statement by_scopes i) xs) (map (statement by_uses j) xs)
  stmts_follow [] = ends
  stmts_follow (x ∷ xs) = more (stmt_follows x) (stmts_follow xs)

  items_follow : (xs : List Stmt) → Follows (items_made by_scopes i xs) (items_made by_uses j xs)
  items_follow xs = block_follows (stmts_follow xs)

-- ---- bodies and files

either_follows : {A : Type 0} (c : Bool) {x x' y y' : Making A} → Follows x x' → Follows y y' → Follows (if c then x else y) (if c then x' else y')
either_follows true h k = h
either_follows false h k = k

bodies_follow : (count : ℕ) (bs : List BodyTree) → RInside (items_of by_scopes count bs) (items_of by_uses count bs)
unfolding items_of
bodies_follow count [] range = just_follows []
bodies_follow count (b ∷ bs) range =
    either_follows (b.from + range.from == count) (items_follow (items_of by_scopes count bs) (items_of by_uses count bs) (bodies_follow count bs) b.items) (bodies_follow count bs range)

file_follows : {ss tt : List Statement} → Lists RStatement ss tt → Follows (file_made by_scopes ss) (file_made by_uses tt)
file_follows {ss} {tt} hs =
    subst (λ z. Follows (file_made by_scopes ss) (numbered (file_body z) (scoped by_uses z (in_order tt 0)))) (all_slots_same hs)
    (numbered_follows (file_body (all_slots ss)) (scoped_follows (all_slots ss) (in_order_follows hs 0)))

pub trees_follow : TreesFollow
unfolding tree_made
trees_follow tree s rest = let count = token_count tree in
    (file_follows (stmts_follow (items_of by_scopes count tree.bodies) (items_of by_uses count tree.bodies) (bodies_follow count tree.bodies) tree.items)).follows [] None s rest
