-- Two ways to keep a running body: as what it wants after each list of further answers, and as the body, its scope and the
-- answers so far.
use Rattle.std.specs.Prelude.{List, [], ◌∷◌, ◌++◌}
use Rattle.actx_text.specs.declared.body_id.BodyId.{BodyId}
use Rattle.actx_value.specs.declared.ids.ScopeId.{ScopeId}
use Rattle.actx_value.specs.declared.value.Answer.{Answer}
use Rattle.actx_code.specs.Codes.{Lists}
use Rattle.actx_want.specs.Run.{Wants, Run}
use Rattle.actx_want.specs.Bodies.{wants_after}
use Rattle.actx_world.specs.Setup.{Bodies}

-- ---- as its rest

unfoldable pub first : Run → Wants
first r = r []

unfoldable pub after : Answer → Run → Run
after a r = λ more. r (a ∷ more)

unfoldable pub from : Lists → BodyId → ScopeId → Run
from code b s = wants_after code b s

abbrev pub rests : Lists → Bodies Run
rests code = record { wants = first; after = after; begin = from code }

-- ---- as what is evaluated again with one answer more

pub record Replay : Type 0 where
  pub body : BodyId
  pub scope : ScopeId
  pub answers : List Answer

abbrev pub replays : Lists → Bodies Replay
replays code = record {
  wants = λ p. wants_after code p.body p.scope p.answers;
  after = λ a p. record p { answers = p.answers ++ a ∷ [] };
  begin = λ b s. record { body = b; scope = s; answers = [] };
}

-- what a replay wants after further answers
abbrev pub rest_of : Lists → Replay → Run
rest_of code p = λ more. wants_after code p.body p.scope (p.answers ++ more)
