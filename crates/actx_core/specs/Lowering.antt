-- The core forms of a file and of the bundled text (ECMA-262 §14 to §16).
--
-- Bodies are numbered in the order in which they begin, the file's own items first: a function begins with its parameters, and
-- a class without a constructor has its implicit one where it begins. Then come those of the bundled text. Literal texts stand
-- in the order in which they come up in the forms, each once.
use Rattle.std.specs.Prelude.{ℕ, ◌+◌, ◌==◌, List, [], ◌∷◌, map, if◌then◌else◌, None, false}
use Rattle.actx_text.specs.declared.body_id.BodyId.{BodyId}
use Rattle.actx_tree.specs.declared.function.Flow.TheVariants as flow
use Rattle.actx_tree.specs.declared.function.Unread.{Unread}
use Rattle.actx_tree.specs.declared.stmt.Stmt.{Stmt}
use Rattle.actx_tree.specs.declared.tree.BodyTree.{BodyTree}
use Rattle.actx_tree.specs.declared.tree.Tree.{Tree}
use Rattle.actx_code.specs.declared.body.BodyKind.TheVariants as kinds
use Rattle.actx_code.specs.declared.item.Declared.{Declared}
use Rattle.actx_core.specs.declared.meaning.Meaning.{Meaning}
use Rattle.actx_scope_rules.specs.Scopes.{Scope}
use Rattle.actx_scope_rules.specs.Early.{token_count}
use Rattle.actx_core.specs.declared.core_form.Core.TheVariants as forms
use Rattle.actx_core.specs.Making.{CoreBody, CoreCode, Numbered, Around, Made, Making, just, of1, numbered}
use Rattle.actx_core.specs.Names.{Names, by_scopes, scoped}
use Rattle.actx_core.specs.Functions.{Inside}
use Rattle.actx_core.specs.Statements.{Forms, Statement, all_slots, in_order, as_block, items_made, statement}

-- ---- bodies

-- The statements of the body of a range, which is the body whose place and the range's give the count of tokens. The bodies in
-- it stand behind it in the list.
unfoldable pub items_of : Names → ℕ → List BodyTree → Inside
items_of names count [] range = just []
items_of names count (b ∷ bs) range = if b.from + range.from == count then items_made names (items_of names count bs) b.items else items_of names count bs range

-- ---- files

abbrev pub file_body : Scope → Forms → CoreBody
file_body slots x = record { kind = kinds.File; flow = flow.Plain; name = 0; hidden = false; cells = 0; form = forms.Sequence (as_block slots x) }

-- the body of a file, with its number and the functions that it declares at its top (§16.1.6)
abbrev pub file_made : Names → List Statement → Making (ℕ × Forms)
file_made names ss = numbered (file_body (all_slots ss)) (scoped names (all_slots ss) (in_order ss 0))

-- outside all scopes of a file
abbrev pub at_top : Around
at_top = record { scopes = []; this = None }

unfoldable pub tree_made : Names → Tree → Numbered → Made (ℕ × Forms)
tree_made names tree s = file_made names (map (statement names (items_of names (token_count tree) tree.bodies)) tree.items) at_top s

-- ---- the code

abbrev pub nothing_numbered : Numbered
nothing_numbered = record { bodies = []; literals = []; uses = [] }

abbrev pub declared_bodies : List Declared → List BodyId
declared_bodies ds = map (λ (d : Declared). d.body) ds

-- the code of a file and of the bundled text
abbrev pub core : Tree → Tree → CoreCode
core file bundle =
    let first = tree_made by_scopes file nothing_numbered in let second = tree_made by_scopes bundle first.after in
    record { bodies = second.after.bodies; literals = second.after.literals; bundled = declared_bodies second.value.1.functions }
