-- The laws of files: one tree at most, its size and its levels, and what reading gives.
use Rattle.std.proofs.Common.{◌≡◌, ◌∙◌, ℕ, suc, ◌+◌, ◌-◌, ◌*◌, ◌<◌, ◌≤◌, List, [], ◌∷◌, length, map, Result, Ok, Err, sym, ap, arith}
use Rattle.std.proofs.lemmas.List.{length-drop}
use Rattle.actx_tree.specs.declared.stmt.Stmt.{Stmt}
use Rattle.actx_tree.specs.declared.function.Nested.{Nested}
use Rattle.actx_tree.specs.declared.tree.BodyTree.{BodyTree}
use Rattle.actx_tree.specs.Bodies.{stmts_bodies}
use Rattle.actx_tree.specs.Sizes.{total, stmts_size, body_size}
use Rattle.actx_grammar.specs.declared.error.Cause.{Cause}
use Rattle.actx_grammar.specs.declared.error.Cause.TheVariants.{NoTree, TooNested}
use Rattle.actx_grammar.specs.Tokens.{Tokens}
use Rattle.actx_grammar.specs.Weights.{weight, reach}
use Rattle.actx_grammar.proofs.SizeLines.{weight-append}
use Rattle.actx_grammar.proofs.ReachLines.{reach-append}
use Rattle.actx_program.specs.Trees.{file, SpBody, body, SpBodies, bodies-none, bodies-more, tree}
use Rattle.actx_program.specs.TreeReader.{program_in, program}
use Rattle.actx_program.specs.Laws.{OneProgram, SmallPrograms, FewLevels, GivesSpelled, SpellsGiven, SpellsNone, SpellsDeep}
use Rattle.actx_program.proofs.StatementSizes.{size-items}
use Rattle.actx_program.proofs.StatementLow.{low-items}
use Rattle.actx_program.proofs.StatementReach.{reach-items}
use Rattle.actx_program.proofs.GetTrees.{Comes, comes, sinks, get-tree}
use Rattle.actx_program.proofs.SoundTrees.{value_or, sound-tree}

-- ---- sizes

size-body : (tokens : Tokens) (n : Nested) {xs : List Stmt} {h : ℕ} → SpBody tokens n xs h → suc (stmts_size xs) + 16 * weight (stmts_bodies xs n.depth) ≤ 16 * weight (n ∷ [])
size-body tokens n (body d e q) = let w = size-items d n.depth in let l = length-drop (length tokens - n.range.from) tokens in omega arith

size-bodies : (tokens : Tokens) {ns : List Nested} {bs : List BodyTree} {i : ℕ} → SpBodies tokens ns bs i → total (map body_size bs) ≤ 16 * weight ns
size-bodies tokens bodies-none = omega arith
size-bodies tokens (bodies-more {n = n} {ns = ns} {xs = xs} c d) = let e = size-body tokens n c in let f = size-bodies tokens d in let y = weight-append ns (stmts_bodies xs n.depth) in omega arith

pub small_programs : SmallPrograms
small_programs tokens _ _ (tree (file c) d) = let e = size-items c 0 in let f = size-bodies tokens d in omega arith

-- ---- levels

-- with the nodes around it a body has no more levels than its reach
low-body : (tokens : Tokens) (n : Nested) {xs : List Stmt} {h : ℕ} → SpBody tokens n xs h → n.depth + h ≤ reach (n ∷ [])
low-body tokens n (body d e q) = let w = low-items d in let l = length-drop (length tokens - n.range.from) tokens in omega arith

reach-body : (tokens : Tokens) (n : Nested) {xs : List Stmt} {h : ℕ} → SpBody tokens n xs h → reach (stmts_bodies xs n.depth) ≤ reach (n ∷ [])
reach-body tokens n (body d e q) = let w = reach-items d n.depth in let l = length-drop (length tokens - n.range.from) tokens in omega arith

low-bodies : (tokens : Tokens) {ns : List Nested} {bs : List BodyTree} {i : ℕ} → SpBodies tokens ns bs i → i ≤ reach ns
low-bodies tokens bodies-none = omega arith
low-bodies tokens (bodies-more {n = n} {ns = ns} {xs = xs} c d) =
    let e = low-body tokens n c in let f = low-bodies tokens d in let g = reach-body tokens n c in let y = reach-append ns (stmts_bodies xs n.depth) in omega arith

pub few_levels : FewLevels
few_levels tokens _ _ (tree (file c) d) = let e = low-items c in let f = low-bodies tokens d in let g = reach-items c 0 in omega arith

-- ---- what reading gives

none_at : {A : Type 0} {room h : ℕ} {o : Result A Cause} {t : A} → o ≡ Err NoTree → Comes room h o t → ⊥
none_at q (comes l e) = Prim.absurd (cc)
none_at q (sinks l e) = Prim.absurd (cc)

deep_at : {A : Type 0} {room h : ℕ} {o : Result A Cause} {t : A} → o ≡ Err TooNested → Comes room h o t → room < h
deep_at q (comes l e) = Prim.absurd (cc)
deep_at q (sinks l e) = l

low_at : {A : Type 0} {room h : ℕ} {o : Result A Cause} {t : A} → h ≤ room → Comes room h o t → o ≡ Ok t
low_at l (comes m e) = e
low_at l (sinks m e) = Prim.absurd (omega arith)

same_at : {A : Type 0} {room h : ℕ} {o : Result A Cause} {s t : A} → o ≡ Ok s → Comes room h o t → s ≡ t
same_at {t = t} q (comes l e) = ap (value_or t) (sym q ∙ e)
same_at q (sinks l e) = Prim.absurd (cc)

pub one_program : OneProgram
one_program tokens s t g h c d = go (get-tree tokens (g + h) c)
  where
    go : Comes (g + h) g (program_in tokens (g + h)) s → s ≡ t
    go (comes l q) = same_at q (get-tree tokens (g + h) d)
    go (sinks l q) = Prim.absurd (omega arith)

pub gives_spelled : GivesSpelled
unfolding program
gives_spelled tokens t h d l = low_at l (get-tree tokens 201 d)

pub spells_given : SpellsGiven
unfolding program
spells_given tokens t q = let z = (sound-tree tokens 201).ok t q in (z.h, z.is, z.low)

pub spells_none : SpellsNone
unfolding program
spells_none tokens q t h d = none_at q (get-tree tokens 201 d)

pub spells_deep : SpellsDeep
unfolding program
spells_deep tokens q t h d = deep_at q (get-tree tokens 201 d)
