-- What the items of patterns do with a value.
use Rattle.std.specs.Prelude.{ℕ, List, [], ◌∷◌, map, drop, Option}
use Rattle.actx_value.specs.declared.value.Value.{Value}
use Rattle.actx_want.specs.declared.completion.Completion.TheVariants.{Normal}
use Rattle.actx_want.specs.Run.{Run, Next', Place, before}
use Rattle.actx_want.specs.Lists.{coming, taking, collected}
use Rattle.actx_want.specs.Functions.{Binding, binding}
use Rattle.actx_want.specs.Patterns.{PropertyBinding, slot, keys_of, properties_of, rest_of, rest_array, past_end, rest_of_walk, item_bound, items_of}
use Rattle.actx_want.specs.Bodies.{eval_pattern, eval_element, eval_property}
use Rattle.actx_frame_items.specs.declared.items.pattern.Properties.{Properties}
use Rattle.actx_frame_items.specs.declared.items.pattern.Elements.{Elements}
use Rattle.actx_frame_items.specs.declared.items.pattern.PatternStep.{PatternStep}
use Rattle.actx_frame_items.specs.declared.items.pattern.PatternStep.TheVariants as steps
use Rattle.actx_frame_items.specs.Work.{Work}

-- what comes after the last property
abbrev pub after_properties : Properties → Next' → Run
after_properties q k = rest_of q.rest (keys_of (map eval_property q.list.value.items)) q.place q.value k

-- an object pattern from its present property on
unfoldable pub properties_left : Properties → Work
properties_left q = λ k. properties_of (map eval_property (drop q.at q.list.value.items)) q.place q.value (after_properties q k) k

-- the value of the first of these properties came
unfoldable pub property_got : List PropertyBinding → Place → Value → Run → Value → Next' → Run
property_got [] p v next w k = next
property_got (q ∷ qs) p v next w k = q.element p w (before (properties_of qs p v next k) k)

-- an array pattern from its present element on
unfoldable pub elements_left : Elements → Value → Work
elements_left e walk = λ k. items_of (map eval_element (drop e.at e.list.value.items)) e.rest walk e.place k

-- the same past the end of the walk
unfoldable pub elements_past : Elements → Work
elements_past e = λ k. past_end (map eval_element (drop e.at e.list.value.items)) e.rest e.place k

-- the item for the first of these elements came, or the mark
unfoldable pub element_came : List Binding → Option ℕ → Value → Place → Value → Next' → Run
element_came [] rest walk p v k = rest_of_walk walk rest p k
element_came (e ∷ es) rest walk p v k = item_bound walk e (items_of es rest walk p k) (past_end es rest p k) p k (Normal v)

unfoldable pub pattern_work : PatternStep → Value → Work
pattern_work (steps.Binding x p) v = λ k. binding (eval_pattern x.value) p k (Normal v)
pattern_work (steps.BindingElement x p) v = λ k. binding (eval_element x.value) p k (Normal v)
pattern_work (steps.BindingSlot i p) v = λ k. binding (slot i) p k (Normal v)
pattern_work (steps.PropertyGot q) v = λ k. property_got (map eval_property (drop q.at q.list.value.items)) q.place q.value (after_properties q k) v k
pattern_work (steps.PropertyBound q) v = properties_left q
pattern_work (steps.Walking e) v = elements_left e v
pattern_work (steps.ItemBound e walk) v = λ k. element_came (map eval_element (drop e.at e.list.value.items)) e.rest walk e.place v k
pattern_work (steps.PastEnd e) v = elements_past e
pattern_work (steps.RestTaking done walk i p) v = λ k. taking walk (rest_array i p k) k (collected walk (rest_array i p k) k) done.items (Normal v)
pattern_work (steps.RestComing done walk i p) v = λ k. coming (collected walk (rest_array i p k) k) (rest_array i p k) done.items k (Normal v)
