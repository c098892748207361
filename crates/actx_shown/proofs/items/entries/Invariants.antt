use Rattle.std.proofs.Common.{◌≡◌, ◌+◌, ◌++◌, map, length}
use Rattle.actx_objects.specs.Objects.{entries_of}
use Rattle.actx_shown.specs.Items.{entry, entries}
use Rattle.actx_shown.proofs.WalkLemmas.{later}
use Rattle.actx_shown.proofs.items.entries.Given as goal

-- the items so far and those of the entries from the place on are all, and so many steps are left
abbrev pub invariant-loop : goal.invariant-loop
invariant-loop l = (l.items.items ++ map (entry l.has_values) (later l.place (entries_of l.objects l.o).standing) ≡ entries l.has_values l.objects l.o)
    × (l.counter + length (later l.place (entries_of l.objects l.o).standing) ≡ length (entries_of l.objects l.o).standing)
