-- The modules that `require` gives, by their names, each also with `node:` before it.
use Rattle.std.specs.Prelude.{ℕ, List, [], ◌∷◌, take, drop, Option, codes, if◌then◌else◌}
use Rattle.std.specs.List.{find}
use Rattle.std.specs.Option.{option_and_then}
use Rattle.actx_value.specs.Texts.{texts_eq}
use Rattle.actx_value.specs.declared.ids.ObjId.{ObjId}
use Rattle.actx_table.specs.Globals.{object_at}

-- the names, which are the paths of the modules in the table
abbrev pub modules : List (List ℕ)
modules = codes "async_hooks" ∷ codes "events" ∷ codes "timers" ∷ codes "timers/promises" ∷ []

-- a name without `node:` before it
abbrev pub bare : List ℕ → List ℕ
bare name = if texts_eq (take 5 name) (codes "node:") then drop 5 name else name

-- the object of a module by its bare name
abbrev pub found : List ℕ → Option ObjId
found name = option_and_then object_at (find (λ m. texts_eq name m) modules)

abbrev pub module_of : List ℕ → Option ObjId
module_of name = found (bare name)
