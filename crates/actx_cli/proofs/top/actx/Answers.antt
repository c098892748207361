use Rattle.actx_cli.proofs.Statuses.{finished_only, usage_only, usage_always, refused_only, no_file_only, write_fault_only, memory_only, one_of_six}
use Rattle.actx_cli.proofs.Told.{refused_always, too_long_always, completes}
use Rattle.actx_cli.proofs.top.actx.Goals as goal

pub returns-clause-finished : goal.returns-clause-finished
returns-clause-finished g c = finished_only _ c.session.ensures

pub returns-clause-usage : goal.returns-clause-usage
returns-clause-usage g c = usage_only _ c.session.ensures

pub returns-clause-usage_always : goal.returns-clause-usage_always
returns-clause-usage_always g c = usage_always _ c.session.ensures

pub returns-clause-refused : goal.returns-clause-refused
returns-clause-refused g c = refused_only _ c.session.ensures

pub returns-clause-refused_always : goal.returns-clause-refused_always
returns-clause-refused_always g c = refused_always _ c.session.ensures

pub returns-clause-no_file : goal.returns-clause-no_file
returns-clause-no_file g c = no_file_only _ c.session.ensures

pub returns-clause-too_long_always : goal.returns-clause-too_long_always
returns-clause-too_long_always g c = too_long_always _ c.session.ensures

pub returns-clause-write_fault : goal.returns-clause-write_fault
returns-clause-write_fault g c = write_fault_only _ c.session.ensures

pub returns-clause-memory : goal.returns-clause-memory
returns-clause-memory g c = memory_only _ c.session.ensures

pub returns-clause-statuses : goal.returns-clause-statuses
returns-clause-statuses g c = one_of_six _ c.session.ensures

pub returns-clause-complete : goal.returns-clause-complete
returns-clause-complete g c = completes _ c.session.ensures
