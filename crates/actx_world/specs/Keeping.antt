-- A state with its bodies kept otherwise: each body gives way to what stands for it.
use Rattle.std.specs.Prelude.{◌≡◌, ℕ, List, [], ◌∷◌}
use Rattle.actx_text.specs.declared.body_id.BodyId.{BodyId}
use Rattle.actx_value.specs.declared.ids.ScopeId.{ScopeId}
use Rattle.actx_value.specs.declared.value.Answer.{Answer}
use Rattle.actx_request.specs.Outcomes.{Stores}
use Rattle.actx_world.specs.Setup.{Bodies, Setup}
use Rattle.actx_world.specs.State.{Activation, Item, Body, Do, Reply, Hooks, Close, Coroutine, State}
use Rattle.actx_world.specs.Moves.{Move, Next, On, TurnDue, Over, Unbuilt, Asker, Asked, Handing}
use Rattle.actx_world.specs.Ends.{Most}
use Rattle.actx_world.specs.Worlds.{World, world}
use Rattle.actx_world.specs.Rests.{rests, replays, rest_of}

module _ {A B : Type 0} (h : A → B) where
  abbrev pub activation_by : Activation A → Activation B
  activation_by a = record { frame = h a.frame; arguments = a.arguments; scope = a.scope; end = a.end }

  abbrev pub item_by : Item A → Item B
  item_by (Body a) = Body (activation_by a)
  item_by (Do d) = Do d
  item_by (Reply u) = Reply u
  item_by (Hooks calls held) = Hooks calls held
  item_by (Close b marked) = Close b marked

  abbrev pub stack_by : List (Item A) → List (Item B)
  stack_by [] = []
  stack_by (i ∷ rest) = item_by i ∷ stack_by rest

  abbrev pub coroutine_by : Coroutine A → Coroutine B
  coroutine_by c = record { activation = activation_by c.activation; capture = c.capture; state = c.state }

  abbrev pub coroutines_by : List (Coroutine A) → List (Coroutine B)
  coroutines_by [] = []
  coroutines_by (c ∷ cs) = coroutine_by c ∷ coroutines_by cs

  abbrev pub state_by : State A → State B
  state_by s = record {
    stores = s.stores;
    parts = s.parts;
    targets = s.targets;
    promises = s.promises;
    pairs = s.pairs;
    coroutines = coroutines_by s.coroutines;
    variables = s.variables;
    resources = s.resources;
    hooks = s.hooks;
    active_hooks = s.active_hooks;
    destroys = s.destroys;
    ticks = s.ticks;
    microtasks = s.microtasks;
    immediates = s.immediates;
    timers = s.timers;
    operations = s.operations;
    started = s.started;
    phase = s.phase;
    arrivals = s.arrivals;
    newest = s.newest;
    last_job = s.last_job;
    time = s.time;
    turns = s.turns;
    stack = stack_by s.stack;
    hand = s.hand;
  }

  abbrev pub move_by : Move A → Move B
  move_by m = record { adds = m.adds; state = state_by m.state }

  abbrev pub next_kept : Next A → Next B
  next_kept (On m) = On (move_by m)
  next_kept TurnDue = TurnDue
  next_kept (Over e) = Over e
  next_kept Unbuilt = Unbuilt

  abbrev pub asker_by : Asker A → Asker B
  asker_by (Asked a) = Asked (activation_by a)
  asker_by Handing = Handing

  abbrev pub world_by : World A → World B
  world_by w = record { state = state_by w.state; events = w.events }

-- what may be done with a body is the same for what stands for it
pub record StandsFor {A B : Type 0} (bodies : Bodies A) (others : Bodies B) (h : A → B) : Type 0 where
  pub wants : (a : A) → others.wants (h a) ≡ bodies.wants a
  pub after : (x : Answer) (a : A) → h (bodies.after x a) ≡ others.after x (h a)
  pub begin : (b : BodyId) (s : ScopeId) → h (bodies.begin b s) ≡ others.begin b s

-- a run whose bodies are evaluated again with each answer is a run whose bodies go on from where they are
abbrev pub ReplaysAreRests : Type 0
ReplaysAreRests =
    (setup : Setup) (most : Most) (stores : Stores) (k : ℕ) →
    world_by (rest_of setup.code) (world (replays setup.code) setup most stores k) ≡ world (rests setup.code) setup most stores k
