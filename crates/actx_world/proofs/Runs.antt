-- The worked runs, by computation.
use Rattle.std.proofs.Common.{refl}
use Rattle.std.specs.Fmt.{digits}
use Rattle.actx_code.specs.declared.form.Form.{Form}
use Rattle.actx_text.specs.Utf8.{utf8_of}
use Rattle.actx_text.specs.Utf16.{scalars_of}
use Rattle.actx_event.specs.Walk.{met_binding}
use Rattle.actx_want.specs.Run.{turns, loop}
use Rattle.actx_want.specs.Lists.{listed, filled}
use Rattle.actx_want.specs.Members.{suffixed}
use Rattle.actx_want.specs.Operators.{chained}
use Rattle.actx_want.specs.Patterns.{items_of}
use Rattle.actx_want.specs.Classes.{stands_on_prototype, members_of}
use Rattle.actx_want.specs.Statements.{sequenced, declared_of}
use Rattle.actx_world.specs.FileExamples.{FilesRun}
use Rattle.actx_world.specs.Examples.{EmptyFileRuns, ClassRuns, DerivedClassRuns, FunctionRuns, ArrowRuns, BoundRuns, ThroughRuns, TypedRuns, WalkRuns, WalksRun, CaughtRuns, ThrownRuns, DivisionRuns}

pub empty_runs : (form : Form) → EmptyFileRuns form
unfolding met_binding sequenced
empty_runs form = record { ends = refl; events = refl; stays = refl }

pub thrown_runs : (form : Form) → ThrownRuns form
unfolding met_binding sequenced listed suffixed utf8_of scalars_of
thrown_runs form = record { ends = refl; events = refl; text = refl }

pub class_runs : (form : Form) → ClassRuns form
unfolding met_binding sequenced listed stands_on_prototype members_of declared_of
class_runs form = record { ends = refl; events = refl; made = record { objects = refl; properties = refl; cells = refl }; calls = refl; cells = refl; objects = refl; properties = refl; exact = refl; budget = refl; enough = refl }

pub derived_runs : (form : Form) → DerivedClassRuns form
unfolding met_binding sequenced listed stands_on_prototype members_of declared_of turns loop
derived_runs form = record { ends = refl; made = record { objects = refl; properties = refl; cells = refl }; object = refl; prototype = refl }

pub function_runs : (form : Form) → FunctionRuns form
unfolding met_binding sequenced listed suffixed declared_of
function_runs form = record { ends = refl; made = record { objects = refl; properties = refl; cells = refl } }

pub walk_runs : (form : Form) → WalkRuns form
unfolding met_binding sequenced listed turns loop declared_of
walk_runs form = record { ends = refl; made = record { objects = refl; properties = refl; cells = refl } }

pub caught_runs : (form : Form) → CaughtRuns form
unfolding met_binding sequenced suffixed declared_of
caught_runs form = record { ends = refl; made = record { objects = refl; properties = refl; cells = refl } }

pub arrow_runs : (form : Form) → ArrowRuns form
unfolding met_binding sequenced listed suffixed stands_on_prototype members_of declared_of
arrow_runs form = record { ends = refl; made = record { objects = refl; properties = refl; cells = refl }; object = refl }

pub bound_runs : (form : Form) → BoundRuns form
unfolding digits met_binding sequenced listed suffixed
bound_runs form = record { ends = refl; made = record { objects = refl; properties = refl; cells = refl }; text = refl; limited = refl; called = refl }

pub through_runs : (form : Form) → ThroughRuns form
unfolding digits met_binding sequenced listed suffixed
through_runs form = record { called = refl; applied = refl }

pub typed_runs : (form : Form) → TypedRuns form
unfolding met_binding sequenced listed suffixed utf8_of scalars_of
typed_runs form = record { ends = refl; text = refl }

pub files_run : (form : Form) → FilesRun form
unfolding digits met_binding sequenced listed suffixed filled chained stands_on_prototype members_of declared_of utf8_of scalars_of
files_run form = record { with_super = refl; with_super_prints = refl; with_constructors = refl; with_constructors_prints = refl; with_this = refl; with_this_prints = refl }

pub division_runs : (form : Form) → DivisionRuns form
unfolding met_binding chained
division_runs form = record { ends = refl }

pub walks_run : (form : Form) → WalksRun form
unfolding met_binding turns loop items_of
walks_run form = record {
  map = refl;
  map_made = record { objects = refl; properties = refl; cells = refl };
  set = refl;
  set_made = record { objects = refl; properties = refl; cells = refl };
  text = refl;
  text_made = record { objects = refl; properties = refl; cells = refl };
  units = refl;
}
