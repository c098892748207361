-- What is still to be done, by what is done with its completion.
use Rattle.std.specs.Prelude.{List, map, Option, Some, None}
use Rattle.std.specs.declared.rc.Rc.{Rc}
use Rattle.std.specs.declared.alloc.Global.{Global}
use Rattle.actx_code.specs.declared.form.Form.{Form}
use Rattle.actx_want.specs.Run.{Run, Next', Meaning}
use Rattle.actx_want.specs.Bodies.{eval}

abbrev pub Work : Type 0
Work = Next' → Run

-- forms behind shared references
abbrev pub forms : List (Rc Form Global) → List Meaning
forms es = map (λ e. eval e.value) es

-- a form where there is one
abbrev pub form_in : Option (Rc Form Global) → Option Meaning
form_in None = None
form_in (Some e) = Some (eval e.value)
