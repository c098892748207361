-- The code of a run.
use Rattle.std.specs.Prelude.{ℕ, List}
use Rattle.actx_text.specs.declared.body_id.BodyId.{BodyId}
use Rattle.actx_code.specs.declared.body.Body.{Body}

-- the bodies, the literal texts, and the bodies of the bundled functions in source order
pub record Lists : Type 0 where
  pub bodies : List Body
  pub literals : List (List ℕ)
  pub bundled : List BodyId
