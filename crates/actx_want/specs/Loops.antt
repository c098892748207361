-- Loops (ECMA-262 §14.7). Each turn asks Tick first.
use Rattle.std.specs.Prelude.{ℕ, zero, suc, if◌then◌else◌}
use Rattle.actx_value.specs.declared.value.Value.{Value}
use Rattle.actx_value.specs.declared.value.Value.TheVariants as values
use Rattle.actx_value.specs.declared.request.Request.TheVariants as requests
use Rattle.actx_value.specs.Truth.{truth_of}
use Rattle.actx_want.specs.declared.completion.Completion.TheVariants.{Normal, Break, Continue, Return, Throw}
use Rattle.actx_want.specs.Run.{Run, Next', Place, Meaning, Turn, ask, on_value, before, is_mark, within, loop}
use Rattle.actx_want.specs.Functions.{Binding}
use Rattle.actx_want.specs.Patterns.{closing, or_close}

-- a loop without a state
abbrev pub Once : Type 0
Once = Unit {0}

-- A body ended, and the loop goes on with `next` (LoopContinues, §14.7.1.1). `break` and `continue` of number 0 are the
-- loop's own; those of a greater number are of a loop further out, and are one less there.
abbrev pub body_ended : Run → Next' → Next'
body_ended next k (Normal v) = next
body_ended next k (Break zero) = k (Normal values.Undefined)
body_ended next k (Break (suc n)) = k (Break n)
body_ended next k (Continue zero) = next
body_ended next k (Continue (suc n)) = k (Continue n)
body_ended next k (Return v) = k (Return v)
body_ended next k (Throw v) = k (Throw v)

-- the test's value came: the body, or the end of the loop
abbrev pub tested : Meaning → Run → Place → Next' → Next'
tested body next p k = on_value (λ v. if truth_of v then body p (body_ended next k) else k (Normal values.Undefined)) k

-- ---- `while` (§14.7.3.2)

abbrev pub while_turn : Meaning → Meaning → Place → Next' → Turn Once
while_turn test body p k again s = on_value (λ _. test p (tested body (again tt) p k)) k

abbrev pub while_loop : Meaning → Meaning → Meaning
while_loop test body p k = loop (while_turn test body p k) tt

-- ---- `do` (§14.7.2.2)

-- the test's value came: the next turn, or the end of the loop
abbrev pub repeating : Run → Next' → Next'
repeating next k = on_value (λ v. if truth_of v then next else k (Normal values.Undefined)) k

abbrev pub do_turn : Meaning → Meaning → Place → Next' → Turn Once
do_turn body test p k again s = on_value (λ _. body p (body_ended (test p (repeating (again tt) k)) k)) k

abbrev pub do_loop : Meaning → Meaning → Meaning
do_loop body test p k = loop (do_turn body test p k) tt

-- ---- `for` (§14.7.4.2, ForBodyEvaluation §14.7.4.3)

abbrev pub for_turn : Meaning → Meaning → Meaning → Place → Next' → Turn Once
for_turn test update body p k again s = on_value (λ _. test p (tested body (update p (before (again tt) k)) p k)) k

abbrev pub for_loop : Meaning → Meaning → Meaning → Meaning → Meaning
for_loop first test update body p k = first p (before (loop (for_turn test update body p k) tt) k)

-- ---- `for` with `let` or `const`: each turn has a copy of the scope (CreatePerIterationEnvironment, §14.7.4.4)

-- a copy came: the update runs in it, and then the next turn
abbrev pub updating : Meaning → (Place → Run) → Place → Next' → Next'
updating update again p k = on_value (λ s. update (within p s) (before (again (within p s)) k)) k

abbrev pub let_turn : Meaning → Meaning → Meaning → Next' → Turn Place
let_turn test update body k again p = on_value (λ _. test p (tested body (ask (requests.Fork p) (updating update again p k)) p k)) k

-- the first copy came
abbrev pub let_started : Meaning → Meaning → Meaning → Place → Next' → Next'
let_started test update body p k = on_value (λ s. loop (let_turn test update body k) (within p s)) k

-- the declarations ended
abbrev pub let_declared : Meaning → Meaning → Meaning → Place → Next' → Next'
let_declared test update body p k = before (ask (requests.Fork p) (let_started test update body p k)) k

-- the scope of the head came
abbrev pub let_entered : Meaning → Meaning → Meaning → Meaning → Place → Next' → Next'
let_entered first test update body p k = on_value (λ s. first (within p s) (let_declared test update body (within p s) k)) k

abbrev pub let_loop : ℕ → Meaning → Meaning → Meaning → Meaning → Meaning
let_loop cells first test update body p k = ask (requests.Scope p cells) (let_entered first test update body p k)

-- ---- `for-of` (§14.7.5.5, ForIn/OfBodyEvaluation §14.7.5.7)

-- A body ended: any completion but a value and a `continue` of this loop closes the walk.
abbrev pub item_ended : Value → Run → Next' → Next'
item_ended walk next k (Normal v) = next
item_ended walk next k (Break zero) = closing walk (Normal values.Undefined) k
item_ended walk next k (Break (suc n)) = closing walk (Break n) k
item_ended walk next k (Continue zero) = next
item_ended walk next k (Continue (suc n)) = closing walk (Continue n) k
item_ended walk next k (Return v) = closing walk (Return v) k
item_ended walk next k (Throw v) = closing walk (Throw v) k

-- the scope of a turn came: the item is bound in it, and then the body
abbrev pub item_entered : Binding → Meaning → Value → Value → Run → Place → Next' → Next'
item_entered target body walk v next p k =
    on_value (λ s. target (within p s) v (or_close walk (body (within p s) (item_ended walk next k)) k)) k

-- an item came, or the mark
abbrev pub item_came : ℕ → Binding → Meaning → Value → Run → Place → Next' → Next'
item_came cells target body walk next p k =
    on_value (λ v. if is_mark v then k (Normal values.Undefined) else ask (requests.Scope p cells) (item_entered target body walk v next p k)) k

abbrev pub of_turn : ℕ → Binding → Meaning → Value → Place → Next' → Turn Once
of_turn cells target body walk p k again s = on_value (λ _. ask (requests.Next walk) (item_came cells target body walk (again tt) p k)) k

-- the walk came
abbrev pub of_walking : ℕ → Binding → Meaning → Place → Next' → Next'
of_walking cells target body p k = on_value (λ walk. loop (of_turn cells target body walk p k) tt) k

-- the value came
abbrev pub of_opening : ℕ → Binding → Meaning → Place → Next' → Next'
of_opening cells target body p k = on_value (λ v. ask (requests.Open v) (of_walking cells target body p k)) k

abbrev pub of_loop : ℕ → Binding → Meaning → Meaning → Meaning
of_loop cells target e body p k = e p (of_opening cells target body p k)
