-- The kinds of objects in printed forms.
use Rattle.std.specs.Prelude.{ℕ, Bool, true, false, List, codes}
use Rattle.actx_objects.specs.declared.kind.Kind.{Kind}
use Rattle.actx_objects.specs.declared.kind.Kind.TheVariants.{Plain, Array, Function, Class, Native, Error, Map, Set, Promise, Generator, Timeout, Immediate, Variable, Snapshot, Storage, Resource, Hook, Iterator}

abbrev pub kind_word : Kind → List ℕ
kind_word Plain = codes "Object"
kind_word Array = codes "Array"
kind_word Function = codes "Function"
kind_word Class = codes "class"
kind_word Native = codes "Function"
kind_word Error = codes "Error"
kind_word Map = codes "Map"
kind_word Set = codes "Set"
kind_word Promise = codes "Promise"
kind_word Generator = codes "Generator"
kind_word Timeout = codes "Timeout"
kind_word Immediate = codes "Immediate"
kind_word Variable = codes "Variable"
kind_word Snapshot = codes "Snapshot"
kind_word Storage = codes "Storage"
kind_word Resource = codes "Resource"
kind_word Hook = codes "Hook"
kind_word Iterator = codes "Iterator"

-- arrays, plain objects, Maps and Sets show what stands in them
abbrev pub is_container : Kind → Bool
is_container Plain = true
is_container Array = true
is_container Map = true
is_container Set = true
is_container kind = false

-- functions and classes, those of the program and the built-in ones
abbrev pub is_callable : Kind → Bool
is_callable Function = true
is_callable Class = true
is_callable Native = true
is_callable kind = false
