-- Laws of what forms want.
use Rattle.std.specs.Prelude.{ℕ, ◌≡◌, List}
use Rattle.actx_value.specs.declared.value.Value.{Value}
use Rattle.actx_value.specs.declared.value.Answer.{Answer}
use Rattle.actx_value.specs.declared.request.Request.TheVariants as requests
use Rattle.actx_code.specs.declared.form.Form.{Form}
use Rattle.actx_code.specs.declared.form.Form.TheFolds.{map-Form}
use Rattle.actx_code.specs.declared.form.Form.TheViews.{out-Form}
use Rattle.actx_code.specs.declared.item.Argument.{Argument}
use Rattle.actx_code.specs.declared.item.Caught.{Caught}
use Rattle.actx_code.specs.declared.item.Entry.{Entry}
use Rattle.actx_code.specs.declared.item.Operand.{Operand}
use Rattle.actx_code.specs.declared.item.Piece.{Piece}
use Rattle.actx_code.specs.declared.member.Change.{Change}
use Rattle.actx_code.specs.declared.member.Key.{Key}
use Rattle.actx_code.specs.declared.member.Suffix.{Suffix}
use Rattle.actx_code.specs.declared.pattern.Pattern.{Pattern}
use Rattle.actx_code.specs.declared.pattern.Element.{Element}
use Rattle.actx_code.specs.declared.pattern.Property.{Property}
use Rattle.actx_want.specs.Run.{Next', Place, Meaning, Turn, ask, loop}
use Rattle.actx_want.specs.Names.{Changing}
use Rattle.actx_want.specs.Operators.{Chained}
use Rattle.actx_want.specs.Lists.{WithList, Listed, Keyed, Filling, taking}
use Rattle.actx_want.specs.Members.{Suffixed}
use Rattle.actx_want.specs.Functions.{Binding}
use Rattle.actx_want.specs.Patterns.{PropertyBinding}
use Rattle.actx_want.specs.Loops.{while_turn, do_turn, for_turn, let_turn, of_turn}
use Rattle.actx_want.specs.Bodies.{form_step, eval, eval_argument, eval_caught, eval_entry, eval_change, eval_key, eval_suffix, eval_pattern, eval_operand, eval_piece, eval_element, eval_property}
use Rattle.actx_want.specs.Locality.{IsLocal, IsLocalAt}

-- what a form does is what its kind does with what its parts do
abbrev pub EvaluatesByItsParts : Type 0
EvaluatesByItsParts = (form : Form) → eval form ≡ form_step (map-Form Form Argument Caught Entry Change Key Suffix Pattern Operand Piece Element Property Meaning Listed Binding Filling Changing Keyed Suffixed Binding Chained Chained Binding PropertyBinding eval eval_argument eval_caught eval_entry eval_change eval_key eval_suffix eval_pattern eval_operand eval_piece eval_element eval_property (out-Form form))

-- a form looks at what comes after it only on the rest of the answers, and so does a pattern
abbrev pub FormsAreLocal : Type 0
FormsAreLocal = (form : Form) → IsLocal (eval form)

abbrev pub PatternsAreLocal : Type 0
PatternsAreLocal = (pattern : Pattern) → IsLocalAt (eval_pattern pattern)

-- in each state the loop asks Tick, and its answer goes to the turn, after which comes the loop again
abbrev pub AsksTickFirst : {S : Type 0} → Turn S → Type 0
AsksTickFirst {S = S} turn = (s : S) (more : List Answer) → loop turn s more ≡ ask requests.Tick (turn (loop turn) s) more

abbrev pub WhileAsksTickFirst : Type 0
WhileAsksTickFirst = (test body : Form) (p : Place) (k : Next') → AsksTickFirst (while_turn (eval test) (eval body) p k)

abbrev pub DoAsksTickFirst : Type 0
DoAsksTickFirst = (body test : Form) (p : Place) (k : Next') → AsksTickFirst (do_turn (eval body) (eval test) p k)

abbrev pub ForAsksTickFirst : Type 0
ForAsksTickFirst = (test update body : Form) (p : Place) (k : Next') → AsksTickFirst (for_turn (eval test) (eval update) (eval body) p k)

abbrev pub ForLetAsksTickFirst : Type 0
ForLetAsksTickFirst = (test update body : Form) (k : Next') → AsksTickFirst (let_turn (eval test) (eval update) (eval body) k)

abbrev pub ForOfAsksTickFirst : Type 0
ForOfAsksTickFirst = (cells : ℕ) (target : Pattern) (body : Form) (walk : Value) (p : Place) (k : Next') → AsksTickFirst (of_turn cells (eval_pattern target) (eval body) walk p k)

-- the items of a spread, and of a pattern's `...`
abbrev pub ItemsAskTickFirst : Type 0
ItemsAskTickFirst = (walk : Value) (fin : WithList) (k : Next') → AsksTickFirst (taking walk fin k)
