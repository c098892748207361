-- Which kinds have elements or entries.
use Rattle.std.specs.Prelude.{Bool, true, false}
use Rattle.actx_objects.specs.declared.kind.Kind.{Kind}
use Rattle.actx_objects.specs.declared.kind.Kind.TheVariants.{Array, Map, Set}

abbrev pub is_array : Kind → Bool
is_array Array = true
is_array k = false

-- Maps and Sets
abbrev pub is_collection : Kind → Bool
is_collection Map = true
is_collection Set = true
is_collection k = false
