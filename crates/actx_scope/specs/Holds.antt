-- A function value that walks over the bodies in a part.
use Rattle.std.specs.Prelude.{Result, OnOk}
use Rattle.std.specs.declared.alloc.AllocError.{AllocError}
use denote.Ref.{MutBor}
use Rattle.actx_tree.specs.declared.function.Unread.{Unread}
use Rattle.actx_scope.specs.declared.bodies.Bodies.{Bodies}
use Rattle.actx_scope_rules.specs.declared.place.Place.{Place}
use Rattle.actx_scope_rules.specs.declared.place.Role.TheVariants as roles
use Rattle.actx_scope.specs.declared.walk.Walk.{Walk}
use Rattle.actx_scope_rules.specs.Early.{Inside, nodes_in}
use Rattle.actx_scope_rules.specs.Nodes.{body_marks}
use Rattle.actx_scope.specs.Walks.{Adds}

-- what is in the bodies among these
abbrev pub inside_of : Bodies → Inside
inside_of b = nodes_in b.count b.list.now

-- It adds what is in the body of a range.
pub record Holds (bodies : Bodies) (pre : Bodies → Unread → Place → MutBor Walk → Type 0)
    (post : Bodies → Unread → Place → MutBor Walk → Result (Unit {0}) AllocError → MutBor Walk → Type 0) : Type 0 where
  pub callable : (range : Unread) (place : Place) (old : MutBor Walk) → pre bodies range place old
  pub adds : (range : Unread) (place : Place) (old new : MutBor Walk) (r : Result (Unit {0}) AllocError) → post bodies range place old r new
      → OnOk r (Adds (inside_of bodies) (body_marks range) roles.Evaluated place old.now new.now)
