use Rattle.actx_core.proofs.Worked as worked
use Rattle.actx_core.proofs.laws.classes_of_files.Goals as goal

pub returns-clause-implicit : goal.returns-clause-implicit
returns-clause-implicit c = worked.class_without_constructor

pub returns-clause-constructor : goal.returns-clause-constructor
returns-clause-constructor c = worked.class_with_constructor

pub returns-clause-static_method : goal.returns-clause-static_method
returns-clause-static_method c = worked.class_with_static

pub returns-clause-expression : goal.returns-clause-expression
returns-clause-expression c = worked.class_expression
