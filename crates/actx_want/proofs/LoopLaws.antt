-- Each turn of a loop asks Tick first.
use Rattle.std.proofs.Common.{ℕ, refl}
use Rattle.actx_code.specs.declared.form.Form.TheFolds.{fold_out-Form}
use Rattle.actx_want.specs.Run.{Next', Meaning}
use Rattle.actx_want.specs.Names.{Changing}
use Rattle.actx_want.specs.Operators.{Chained}
use Rattle.actx_want.specs.Lists.{Listed, Keyed, Filling, taking}
use Rattle.actx_want.specs.Members.{Suffixed}
use Rattle.actx_want.specs.Functions.{Binding}
use Rattle.actx_want.specs.Patterns.{PropertyBinding}
use Rattle.actx_want.specs.Loops.{while_turn, do_turn, for_turn, let_turn, of_turn}
use Rattle.actx_want.specs.Bodies.{form_step, argument_step, caught_step, entry_step, change_step, key_step, suffix_step, pattern_step, operand_step, piece_step, element_step, property_step, eval, eval_argument, eval_caught, eval_entry, eval_change, eval_key, eval_suffix, eval_pattern, eval_operand, eval_piece, eval_element, eval_property}
use Rattle.actx_want.specs.Locality.{Agree}
use Rattle.actx_want.specs.Laws.{EvaluatesByItsParts, WhileAsksTickFirst, DoAsksTickFirst, ForAsksTickFirst, ForLetAsksTickFirst, ForOfAsksTickFirst, ItemsAskTickFirst}
use Rattle.actx_want.proofs.Local.{loop_law}
use Rattle.actx_want.proofs.LocalMembers.{taking_local}
use Rattle.actx_want.proofs.LocalStatements.{while_turns, do_turns, for_turns, let_turns, of_turns}
use Rattle.actx_want.proofs.LocalForms.{form_local, pattern_local}

agree : (m : ℕ) (k : Next') → Agree m k k
agree m k c more le = refl

pub while_law : WhileAsksTickFirst
while_law t b p k = loop_law (while_turn (eval t) (eval b) p k) (λ m. while_turns (eval t) (eval b) (form_local t) (form_local b) m p (agree m k))

pub do_law : DoAsksTickFirst
do_law b t p k = loop_law (do_turn (eval b) (eval t) p k) (λ m. do_turns (eval b) (eval t) (form_local b) (form_local t) m p (agree m k))

pub for_law : ForAsksTickFirst
for_law t u b p k = loop_law (for_turn (eval t) (eval u) (eval b) p k) (λ m. for_turns (eval t) (eval u) (eval b) (form_local t) (form_local u) (form_local b) m p (agree m k))

pub let_law : ForLetAsksTickFirst
let_law t u b k = loop_law (let_turn (eval t) (eval u) (eval b) k) (λ m. let_turns (eval t) (eval u) (eval b) (form_local t) (form_local u) (form_local b) m (agree m k))

pub of_law : ForOfAsksTickFirst
of_law cells x b walk p k = loop_law (of_turn cells (eval_pattern x) (eval b) walk p k) (λ m. of_turns cells (eval_pattern x) (eval b) (pattern_local x) (form_local b) walk m p (agree m k))

pub items_law : ItemsAskTickFirst
items_law walk fin k = loop_law (taking walk fin k) (λ m. taking_local walk m {f = fin} {g = fin} (λ d more le. refl) (agree m k))

pub parts_law : EvaluatesByItsParts
unfolding eval eval_argument eval_caught eval_entry eval_change eval_key eval_suffix eval_pattern eval_operand eval_piece eval_element eval_property
parts_law form = fold_out-Form Meaning Listed Binding Filling Changing Keyed Suffixed Binding Chained Chained Binding PropertyBinding form_step argument_step caught_step entry_step change_step key_step suffix_step pattern_step operand_step piece_step element_step property_step form
