-- What the calls answer.
use Rattle.std.specs.Prelude.{◌≡◌, nat_le, if◌then◌else◌, ℕ, List, Result, Ok, Err}
use Rattle.actx_tree.specs.declared.stmt.Stmt.{Stmt}
use Rattle.actx_tree.specs.declared.tree.Tree.{Tree}
use Rattle.actx_grammar.specs.declared.error.Cause.{Cause}
use Rattle.actx_grammar.specs.declared.error.Cause.TheVariants as cause
use Rattle.actx_grammar.specs.declared.error.ParseError.{ParseError}
use Rattle.actx_grammar.specs.declared.error.ParseError.TheVariants.{NoTree, TooNested, Memory}
use Rattle.actx_grammar.specs.Reader.{Outcome, Read}
use Rattle.actx_program.specs.TreeReader.{after_items}

-- the tree, or want of memory
abbrev pub GivesTree : Tree → Result Tree ParseError → Type 0
GivesTree t (Ok s) = s ≡ t
GivesTree t (Err Memory) = Unit {0}
GivesTree t (Err (NoTree at)) = ⊥
GivesTree t (Err (TooNested at)) = ⊥

-- what the definition finds, unless memory fails
abbrev pub Finds : {A : Type 0} → Result A Cause → Result A ParseError → Type 0
Finds outcome (Ok a) = outcome ≡ Ok a
Finds outcome (Err (NoTree at)) = outcome ≡ Err cause.NoTree
Finds outcome (Err (TooNested at)) = outcome ≡ Err cause.TooNested
Finds outcome (Err Memory) = Unit {0}

-- the items that are read, without their levels and the tokens behind them
abbrev pub items_of : Outcome (Read (List Stmt)) → Result (List Stmt) Cause
items_of o = after_items o Ok

-- a file of at most 100 tokens where reading sinks too deep has no tree
abbrev pub settled : ℕ → Result Tree ParseError → Result Tree ParseError
settled count (Err (TooNested at)) = if nat_le count 100 then Err (NoTree at) else Err (TooNested at)
settled count answer = answer
