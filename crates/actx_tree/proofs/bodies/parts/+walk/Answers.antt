-- The proof that the walk finds the bodies in each kind of expression, pattern, function and class.
use Rattle.std.proofs.Common.{rules, arith, inl, inr, ◌<◌, ◌≤◌, length, refl, append_assoc}
use Rattle.std.proofs.lemmas.List.{append-nil}
use Rattle.actx_tree.specs.Bodies as bodies
use Rattle.actx_tree.specs.Levels as levels
use Rattle.actx_tree.specs.declared.expr.Expr.{the_lemmas}
use Rattle.actx_tree.proofs.LevelEquations.{argument_levels-One, argument_levels-Spread, class_levels-fields, elem_levels-fields, entry_levels-Method, entry_levels-Pair, entry_levels-Spread, expr_levels-Array, expr_levels-Arrow, expr_levels-ArrowBlock, expr_levels-Assign, expr_levels-Brackets, expr_levels-Chain, expr_levels-Class, expr_levels-Comma, expr_levels-Conditional, expr_levels-Function, expr_levels-Left, expr_levels-New, expr_levels-Object, expr_levels-StepAfter, expr_levels-StepBefore, expr_levels-SuperCall, expr_levels-Template, expr_levels-Unary, expr_levels-Yield, function_levels-fields, key_levels-Computed, member_levels-fields, method_levels-fields, operand_levels-fields, params_levels-fields, piece_levels-fields, prop_levels-Pair, prop_levels-Shorthand, suffix_levels-Call, suffix_levels-Index, target_levels-Array, target_levels-Object}
use Rattle.actx_tree.proofs.BodyEquations.{argument_bodies-One, argument_bodies-Spread, class_bodies-fields, elem_bodies-fields, entry_bodies-Method, entry_bodies-Pair, entry_bodies-Shorthand, entry_bodies-Spread, expr_bodies-Array, expr_bodies-Arrow, expr_bodies-ArrowBlock, expr_bodies-Assign, expr_bodies-Bool, expr_bodies-Brackets, expr_bodies-Chain, expr_bodies-Class, expr_bodies-Comma, expr_bodies-Conditional, expr_bodies-Function, expr_bodies-Left, expr_bodies-Name, expr_bodies-New, expr_bodies-Null, expr_bodies-Number, expr_bodies-Object, expr_bodies-StepAfter, expr_bodies-StepBefore, expr_bodies-SuperCall, expr_bodies-SuperMember, expr_bodies-Template, expr_bodies-Text, expr_bodies-This, expr_bodies-Unary, expr_bodies-Yield, function_bodies-fields, key_bodies-Computed, key_bodies-Number, key_bodies-Text, key_bodies-Word, member_bodies-fields, method_bodies-fields, operand_bodies-fields, params_bodies-fields, piece_bodies-fields, prop_bodies-Pair, prop_bodies-Shorthand, suffix_bodies-Call, suffix_bodies-Index, suffix_bodies-Member, target_bodies-Array, target_bodies-Name, target_bodies-Object}
use Rattle.actx_tree.proofs.Walk.{highest-drop, all_more, all_done}
use Rattle.actx_tree.proofs.bodies.parts.+walk.Goals as goal

pub of_argument-of_expr-requires : goal.of_argument-of_expr-requires
of_argument-of_expr-requires t c = (search (rules, the_lemmas), elim c.in-One.is [ inl e ↦ let r = rw (e, argument_levels-One) at c.requires in omega (arith, r) | inr h ↦ let r = rw (h, argument_levels-Spread) at c.requires in omega (arith, r) ])

pub of_argument-returns : goal.of_argument-returns
of_argument-returns t c = let last = c.of_expr.ensures in elim c.in-One.is [ inl e ↦ rw (e, argument_bodies-One) last | inr h ↦ rw (h, argument_bodies-Spread) last ]

pub of_arguments-loop-argument-init : goal.of_arguments-loop-argument-init
of_arguments-loop-argument-init t c = (refl, c.requires)

pub of_arguments-of_argument-requires : goal.of_arguments-of_argument-requires
of_arguments-of_argument-requires t c = let h : c.loop-argument.argument-index < length c.args.arguments.now = omega (arith, c.loop-argument-test.true) in let e = highest-drop levels.argument_levels c.args.arguments.now c.loop-argument.argument-index c.argument-item.result h c.argument-item.is in (search (rules, the_lemmas), omega (arith, e, c.loop-argument.invariant.1))

pub of_arguments-loop-argument-preserved : goal.of_arguments-loop-argument-preserved
of_arguments-loop-argument-preserved t c = let h : c.loop-argument.argument-index < length c.args.arguments.now = omega (arith, c.loop-argument-test.true) in let e = highest-drop levels.argument_levels c.args.arguments.now c.loop-argument.argument-index c.argument-item.result h c.argument-item.is in (all_more bodies.argument_bodies c.args.arguments.now c.loop-argument.argument-index c.argument-item.result c.args.depth c.loop-argument.found c.of_argument.new.found _ h c.argument-item.is c.in_ok-of_argument.ensures c.loop-argument.invariant.0, omega (arith, e, c.loop-argument.invariant.1))

pub of_arguments-returns : goal.of_arguments-returns
of_arguments-returns t c = let h : length c.args.arguments.now ≤ c.loop-argument.argument-index = omega (arith, c.loop-argument-test.false) in all_done bodies.argument_bodies c.args.arguments.now c.loop-argument.argument-index c.args.depth c.loop-argument.found _ h c.loop-argument.invariant.0

pub of_class-of_optional-requires : goal.of_class-of_optional-requires
of_class-of_optional-requires t c = let r = rw (class_levels-fields) at c.requires in (search (rules, the_lemmas), omega (arith, r))

pub of_class-of_members-requires : goal.of_class-of_members-requires
of_class-of_members-requires t c = let r = rw (class_levels-fields) at c.requires in (search (rules, the_lemmas), rw c.as_slice.ensures (omega (arith, r)))

pub of_class-returns : goal.of_class-returns
of_class-returns t c = let s1 = c.in_ok-of_optional.ensures in let last = rw c.as_slice.ensures at c.of_members.ensures in rw (class_bodies-fields, ← append_assoc c.args.found.now, ← s1) last

pub of_elem-of_target-requires : goal.of_elem-of_target-requires
of_elem-of_target-requires t c = let r = rw (elem_levels-fields) at c.requires in (search (rules, the_lemmas), omega (arith, r))

pub of_elem-of_optional-requires : goal.of_elem-of_optional-requires
of_elem-of_optional-requires t c = let r = rw (elem_levels-fields) at c.requires in (search (rules, the_lemmas), omega (arith, r))

pub of_elem-returns : goal.of_elem-returns
of_elem-returns t c = let s1 = c.in_ok-of_target.ensures in let last = c.of_optional.ensures in rw (elem_bodies-fields, ← append_assoc c.args.found.now, ← s1) last

pub of_elems-loop-elem-init : goal.of_elems-loop-elem-init
of_elems-loop-elem-init t c = (refl, c.requires)

pub of_elems-of_elem-requires : goal.of_elems-of_elem-requires
of_elems-of_elem-requires t c = let h : c.loop-elem.elem-index < length c.args.elems.now = omega (arith, c.loop-elem-test.true) in let e = highest-drop levels.elem_levels c.args.elems.now c.loop-elem.elem-index c.elem-item.result h c.elem-item.is in (search (rules, the_lemmas), omega (arith, e, c.loop-elem.invariant.1))

pub of_elems-loop-elem-preserved : goal.of_elems-loop-elem-preserved
of_elems-loop-elem-preserved t c = let h : c.loop-elem.elem-index < length c.args.elems.now = omega (arith, c.loop-elem-test.true) in let e = highest-drop levels.elem_levels c.args.elems.now c.loop-elem.elem-index c.elem-item.result h c.elem-item.is in (all_more bodies.elem_bodies c.args.elems.now c.loop-elem.elem-index c.elem-item.result c.args.depth c.loop-elem.found c.of_elem.new.found _ h c.elem-item.is c.in_ok-of_elem.ensures c.loop-elem.invariant.0, omega (arith, e, c.loop-elem.invariant.1))

pub of_elems-returns : goal.of_elems-returns
of_elems-returns t c = let h : length c.args.elems.now ≤ c.loop-elem.elem-index = omega (arith, c.loop-elem-test.false) in all_done bodies.elem_bodies c.args.elems.now c.loop-elem.elem-index c.args.depth c.loop-elem.found _ h c.loop-elem.invariant.0

pub of_entries-loop-entry-init : goal.of_entries-loop-entry-init
of_entries-loop-entry-init t c = (refl, c.requires)

pub of_entries-of_entry-requires : goal.of_entries-of_entry-requires
of_entries-of_entry-requires t c = let h : c.loop-entry.entry-index < length c.args.entries.now = omega (arith, c.loop-entry-test.true) in let e = highest-drop levels.entry_levels c.args.entries.now c.loop-entry.entry-index c.entry-item.result h c.entry-item.is in (search (rules, the_lemmas), omega (arith, e, c.loop-entry.invariant.1))

pub of_entries-loop-entry-preserved : goal.of_entries-loop-entry-preserved
of_entries-loop-entry-preserved t c = let h : c.loop-entry.entry-index < length c.args.entries.now = omega (arith, c.loop-entry-test.true) in let e = highest-drop levels.entry_levels c.args.entries.now c.loop-entry.entry-index c.entry-item.result h c.entry-item.is in (all_more bodies.entry_bodies c.args.entries.now c.loop-entry.entry-index c.entry-item.result c.args.depth c.loop-entry.found c.of_entry.new.found _ h c.entry-item.is c.in_ok-of_entry.ensures c.loop-entry.invariant.0, omega (arith, e, c.loop-entry.invariant.1))

pub of_entries-returns : goal.of_entries-returns
of_entries-returns t c = let h : length c.args.entries.now ≤ c.loop-entry.entry-index = omega (arith, c.loop-entry-test.false) in all_done bodies.entry_bodies c.args.entries.now c.loop-entry.entry-index c.args.depth c.loop-entry.found _ h c.loop-entry.invariant.0

pub of_entry-of_expr-requires : goal.of_entry-of_expr-requires
of_entry-of_expr-requires t c = let r = rw (c.in-Spread.is, entry_levels-Spread) at c.requires in (search (rules, the_lemmas), omega (arith, r))

pub of_entry-of_key-requires : goal.of_entry-of_key-requires
of_entry-of_key-requires t c = let r = rw (c.in-Pair.is, entry_levels-Pair) at c.requires in (search (rules, the_lemmas), omega (arith, r))

pub of_entry-of_expr-requires-in-Pair : goal.of_entry-of_expr-requires-in-Pair
of_entry-of_expr-requires-in-Pair t c = let r = rw (c.in-Pair.is, entry_levels-Pair) at c.requires in (search (rules, the_lemmas), omega (arith, r))

pub of_entry-of_method-requires : goal.of_entry-of_method-requires
of_entry-of_method-requires t c = let r = rw (c.in-Method.is, entry_levels-Method) at c.requires in (search (rules, the_lemmas), omega (arith, r))

pub of_entry-returns-in-Spread : goal.of_entry-returns-in-Spread
of_entry-returns-in-Spread t c = let last = c.of_expr.ensures in rw (c.in-Spread.is, entry_bodies-Spread) last

pub of_entry-returns-in-Shorthand : goal.of_entry-returns-in-Shorthand
of_entry-returns-in-Shorthand t c = rw (c.in-Shorthand.is, entry_bodies-Shorthand, append-nil)

pub of_entry-returns-in_ok-of_key-in-Pair : goal.of_entry-returns-in_ok-of_key-in-Pair
of_entry-returns-in_ok-of_key-in-Pair t c = let s1 = c.in_ok-of_key-in-Pair.ensures in let last = c.of_expr-in-Pair.ensures in rw (c.in-Pair.is, entry_bodies-Pair, ← append_assoc c.args.found.now, ← s1) last

pub of_entry-returns-in-Method : goal.of_entry-returns-in-Method
of_entry-returns-in-Method t c = let last = c.of_method.ensures in rw (c.in-Method.is, entry_bodies-Method) last

pub of_expr-of_pieces-requires : goal.of_expr-of_pieces-requires
of_expr-of_pieces-requires t c = let r = rw (c.in-Template.is, expr_levels-Template) at c.requires in (search (rules, the_lemmas), rw c.as_slice.ensures (omega (arith, r)))

pub of_expr-of_entries-requires : goal.of_expr-of_entries-requires
of_expr-of_entries-requires t c = let r = rw (c.in-Object.is, expr_levels-Object) at c.requires in (search (rules, the_lemmas), rw c.as_slice-in-Object.ensures (omega (arith, r)))

pub of_expr-of_function-requires : goal.of_expr-of_function-requires
of_expr-of_function-requires t c = let r = rw (c.in-Function.is, expr_levels-Function) at c.requires in (search (rules, the_lemmas), omega (arith, r))

pub of_expr-of_class-requires : goal.of_expr-of_class-requires
of_expr-of_class-requires t c = let r = rw (c.in-Class.is, expr_levels-Class) at c.requires in (search (rules, the_lemmas), omega (arith, r))

pub of_expr-of_expr-requires : goal.of_expr-of_expr-requires
of_expr-of_expr-requires t c = let r = rw (c.in-New.is, expr_levels-New) at c.requires in (search (rules, the_lemmas), rw c.get.ensures (omega (arith, r)))

pub of_expr-of_suffixes-requires : goal.of_expr-of_suffixes-requires
of_expr-of_suffixes-requires t c = let r = rw (c.in-New.is, expr_levels-New) at c.requires in (search (rules, the_lemmas), rw c.as_slice-in-New.ensures (omega (arith, r)))

pub of_expr-of_arguments-requires : goal.of_expr-of_arguments-requires
of_expr-of_arguments-requires t c = let r = rw (c.in-New.is, expr_levels-New, c.in-Some.is) at c.requires in (search (rules, the_lemmas), rw c.as_slice-in-Some.ensures (omega (arith, r)))

pub of_expr-of_expr-requires-in-Left : goal.of_expr-of_expr-requires-in-Left
of_expr-of_expr-requires-in-Left t c = let r = rw (c.in-Left.is, expr_levels-Left) at c.requires in (search (rules, the_lemmas), rw c.get-in-Left.ensures (omega (arith, r)))

pub of_expr-of_suffixes-requires-in-Left : goal.of_expr-of_suffixes-requires-in-Left
of_expr-of_suffixes-requires-in-Left t c = let r = rw (c.in-Left.is, expr_levels-Left) at c.requires in (search (rules, the_lemmas), rw c.as_slice-in-Left.ensures (omega (arith, r)))

pub of_expr-of_expr-requires-in-Chain : goal.of_expr-of_expr-requires-in-Chain
of_expr-of_expr-requires-in-Chain t c = let r = rw (c.in-Chain.is, expr_levels-Chain) at c.requires in (search (rules, the_lemmas), rw c.get-in-Chain.ensures (omega (arith, r)))

pub of_expr-of_operands-requires : goal.of_expr-of_operands-requires
of_expr-of_operands-requires t c = let r = rw (c.in-Chain.is, expr_levels-Chain) at c.requires in (search (rules, the_lemmas), rw c.as_slice-in-Chain.ensures (omega (arith, r)))

pub of_expr-of_expr-requires-in-Conditional : goal.of_expr-of_expr-requires-in-Conditional
of_expr-of_expr-requires-in-Conditional t c = let r = rw (c.in-Conditional.is, expr_levels-Conditional) at c.requires in (search (rules, the_lemmas), rw c.get-in-Conditional.ensures (omega (arith, r)))

pub of_expr-of_expr-requires-in-Conditional-2 : goal.of_expr-of_expr-requires-in-Conditional-2
of_expr-of_expr-requires-in-Conditional-2 t c = let r = rw (c.in-Conditional.is, expr_levels-Conditional) at c.requires in (search (rules, the_lemmas), rw c.get-in-Conditional-2.ensures (omega (arith, r)))

pub of_expr-of_expr-requires-in-Conditional-3 : goal.of_expr-of_expr-requires-in-Conditional-3
of_expr-of_expr-requires-in-Conditional-3 t c = let r = rw (c.in-Conditional.is, expr_levels-Conditional) at c.requires in (search (rules, the_lemmas), rw c.get-in-Conditional-3.ensures (omega (arith, r)))

pub of_expr-of_expr-requires-in-Assign : goal.of_expr-of_expr-requires-in-Assign
of_expr-of_expr-requires-in-Assign t c = let r = rw (c.in-Assign.is, expr_levels-Assign) at c.requires in (search (rules, the_lemmas), rw c.get-in-Assign.ensures (omega (arith, r)))

pub of_expr-of_expr-requires-in-Assign-2 : goal.of_expr-of_expr-requires-in-Assign-2
of_expr-of_expr-requires-in-Assign-2 t c = let r = rw (c.in-Assign.is, expr_levels-Assign) at c.requires in (search (rules, the_lemmas), rw c.get-in-Assign-2.ensures (omega (arith, r)))

pub of_expr-of_optional-requires : goal.of_expr-of_optional-requires
of_expr-of_optional-requires t c = let r = rw (c.in-Yield.is, expr_levels-Yield) at c.requires in (search (rules, the_lemmas), omega (arith, r))

pub of_expr-of_params-requires : goal.of_expr-of_params-requires
of_expr-of_params-requires t c = let r = rw (c.in-Arrow.is, expr_levels-Arrow) at c.requires in (search (rules, the_lemmas), omega (arith, r))

pub of_expr-of_expr-requires-in-Arrow : goal.of_expr-of_expr-requires-in-Arrow
of_expr-of_expr-requires-in-Arrow t c = let r = rw (c.in-Arrow.is, expr_levels-Arrow) at c.requires in (search (rules, the_lemmas), rw c.get-in-Arrow.ensures (omega (arith, r)))

pub of_expr-of_params-requires-in-ArrowBlock : goal.of_expr-of_params-requires-in-ArrowBlock
of_expr-of_params-requires-in-ArrowBlock t c = let r = rw (c.in-ArrowBlock.is, expr_levels-ArrowBlock) at c.requires in (search (rules, the_lemmas), omega (arith, r))

pub of_expr-add-requires : goal.of_expr-add-requires
of_expr-add-requires t c = let r = rw (c.in-ArrowBlock.is, expr_levels-ArrowBlock) at c.requires in omega (arith, r)

pub of_expr-of_expr-requires-in-Comma : goal.of_expr-of_expr-requires-in-Comma
of_expr-of_expr-requires-in-Comma t c = let r = rw (c.in-Comma.is, expr_levels-Comma) at c.requires in (search (rules, the_lemmas), rw c.get-in-Comma.ensures (omega (arith, r)))

pub of_expr-of_exprs-requires : goal.of_expr-of_exprs-requires
of_expr-of_exprs-requires t c = let r = rw (c.in-Comma.is, expr_levels-Comma) at c.requires in (search (rules, the_lemmas), rw c.as_slice-in-Comma.ensures (omega (arith, r)))

pub of_expr-of_arguments-requires-in-Array : goal.of_expr-of_arguments-requires-in-Array
of_expr-of_arguments-requires-in-Array t c = (search (rules, the_lemmas), elim c.in-Array.is [ inl e ↦ let r = rw (e, expr_levels-Array) at c.requires in rw c.as_slice-in-Array.ensures (omega (arith, r)) | inr h ↦ let r = rw (h, expr_levels-SuperCall) at c.requires in rw c.as_slice-in-Array.ensures (omega (arith, r)) ])

pub of_expr-of_expr-requires-in-Brackets : goal.of_expr-of_expr-requires-in-Brackets
of_expr-of_expr-requires-in-Brackets t c = (search (rules, the_lemmas), elim c.in-Brackets.is [ inl e ↦ let r = rw (e, expr_levels-Brackets) at c.requires in rw c.get-in-Brackets.ensures (omega (arith, r)) | inr h ↦ elim h [ inl e ↦ let r = rw (e.1, expr_levels-StepBefore) at c.requires in rw c.get-in-Brackets.ensures (omega (arith, r)) | inr h ↦ elim h [ inl e ↦ let r = rw (e.1, expr_levels-StepAfter) at c.requires in rw c.get-in-Brackets.ensures (omega (arith, r)) | inr h ↦ let r = rw (h.1, expr_levels-Unary) at c.requires in rw c.get-in-Brackets.ensures (omega (arith, r)) ] ] ])

pub of_expr-returns-in-Template : goal.of_expr-returns-in-Template
of_expr-returns-in-Template t c = let last = rw c.as_slice.ensures at c.of_pieces.ensures in rw (c.in-Template.is, expr_bodies-Template) last

pub of_expr-returns-in-Object : goal.of_expr-returns-in-Object
of_expr-returns-in-Object t c = let last = rw c.as_slice-in-Object.ensures at c.of_entries.ensures in rw (c.in-Object.is, expr_bodies-Object) last

pub of_expr-returns-in-Function : goal.of_expr-returns-in-Function
of_expr-returns-in-Function t c = let last = c.of_function.ensures in rw (c.in-Function.is, expr_bodies-Function) last

pub of_expr-returns-in-Class : goal.of_expr-returns-in-Class
of_expr-returns-in-Class t c = let last = c.of_class.ensures in rw (c.in-Class.is, expr_bodies-Class) last

pub of_expr-returns-in-Some : goal.of_expr-returns-in-Some
of_expr-returns-in-Some t c = let s1 = rw c.get.ensures at c.in_ok-of_expr-in-New.ensures in let s2 = rw c.as_slice-in-New.ensures at c.in_ok-of_suffixes-in-New.ensures in let last = rw c.as_slice-in-Some.ensures at c.of_arguments.ensures in rw (c.in-New.is, expr_bodies-New, c.in-Some.is, ← append_assoc c.args.found.now, ← s1, ← append_assoc c.of_expr.new.found, ← s2) last

pub of_expr-returns-in-None : goal.of_expr-returns-in-None
of_expr-returns-in-None t c = let s1 = rw c.get.ensures at c.in_ok-of_expr-in-New.ensures in let s2 = rw c.as_slice-in-New.ensures at c.in_ok-of_suffixes-in-New.ensures in rw (c.in-New.is, expr_bodies-New, c.in-None.is, append-nil, ← append_assoc c.args.found.now, ← s1) s2

pub of_expr-returns-in_ok-of_expr-in-Left : goal.of_expr-returns-in_ok-of_expr-in-Left
of_expr-returns-in_ok-of_expr-in-Left t c = let s1 = rw c.get-in-Left.ensures at c.in_ok-of_expr-in-Left.ensures in let last = rw c.as_slice-in-Left.ensures at c.of_suffixes-in-Left.ensures in rw (c.in-Left.is, expr_bodies-Left, ← append_assoc c.args.found.now, ← s1) last

pub of_expr-returns-in_ok-of_expr-in-Chain : goal.of_expr-returns-in_ok-of_expr-in-Chain
of_expr-returns-in_ok-of_expr-in-Chain t c = let s1 = rw c.get-in-Chain.ensures at c.in_ok-of_expr-in-Chain.ensures in let last = rw c.as_slice-in-Chain.ensures at c.of_operands.ensures in rw (c.in-Chain.is, expr_bodies-Chain, ← append_assoc c.args.found.now, ← s1) last

pub of_expr-returns-in_ok-of_expr-in-Conditional-2 : goal.of_expr-returns-in_ok-of_expr-in-Conditional-2
of_expr-returns-in_ok-of_expr-in-Conditional-2 t c = let s1 = rw c.get-in-Conditional.ensures at c.in_ok-of_expr-in-Conditional.ensures in let s2 = rw c.get-in-Conditional-2.ensures at c.in_ok-of_expr-in-Conditional-2.ensures in let last = rw c.get-in-Conditional-3.ensures at c.of_expr-in-Conditional-3.ensures in rw (c.in-Conditional.is, expr_bodies-Conditional, ← append_assoc c.args.found.now, ← s1, ← append_assoc c.of_expr-in-Conditional.new.found, ← s2) last

pub of_expr-returns-in_ok-of_expr-in-Assign : goal.of_expr-returns-in_ok-of_expr-in-Assign
of_expr-returns-in_ok-of_expr-in-Assign t c = let s1 = rw c.get-in-Assign.ensures at c.in_ok-of_expr-in-Assign.ensures in let last = rw c.get-in-Assign-2.ensures at c.of_expr-in-Assign-2.ensures in rw (c.in-Assign.is, expr_bodies-Assign, ← append_assoc c.args.found.now, ← s1) last

pub of_expr-returns-in-Yield : goal.of_expr-returns-in-Yield
of_expr-returns-in-Yield t c = let last = c.of_optional.ensures in rw (c.in-Yield.is, expr_bodies-Yield) last

pub of_expr-returns-in_ok-of_params-in-Arrow : goal.of_expr-returns-in_ok-of_params-in-Arrow
of_expr-returns-in_ok-of_params-in-Arrow t c = let s1 = c.in_ok-of_params-in-Arrow.ensures in let last = rw c.get-in-Arrow.ensures at c.of_expr-in-Arrow.ensures in rw (c.in-Arrow.is, expr_bodies-Arrow, ← append_assoc c.args.found.now, ← s1) last

pub of_expr-returns-in_ok-of_params-in-ArrowBlock : goal.of_expr-returns-in_ok-of_params-in-ArrowBlock
of_expr-returns-in_ok-of_params-in-ArrowBlock t c = let s1 = c.in_ok-of_params-in-ArrowBlock.ensures in let last = c.add.ensures in rw (c.in-ArrowBlock.is, expr_bodies-ArrowBlock, ← append_assoc c.args.found.now, ← s1) last

pub of_expr-returns-in_ok-of_expr-in-Comma : goal.of_expr-returns-in_ok-of_expr-in-Comma
of_expr-returns-in_ok-of_expr-in-Comma t c = let s1 = rw c.get-in-Comma.ensures at c.in_ok-of_expr-in-Comma.ensures in let last = rw c.as_slice-in-Comma.ensures at c.of_exprs.ensures in rw (c.in-Comma.is, expr_bodies-Comma, ← append_assoc c.args.found.now, ← s1) last

pub of_expr-returns-in-Null : goal.of_expr-returns-in-Null
of_expr-returns-in-Null t c = elim c.in-Null.is [ inl e ↦ rw (e, expr_bodies-Null, append-nil) | inr h ↦ elim h [ inl e ↦ rw (e, expr_bodies-This, append-nil) | inr h ↦ rw (h.1, expr_bodies-SuperMember, append-nil) ] ]

pub of_expr-returns-in-Null-2 : goal.of_expr-returns-in-Null-2
of_expr-returns-in-Null-2 t c = elim c.in-Null.is [ inl e ↦ rw (e, expr_bodies-Null, append-nil) | inr h ↦ elim h [ inl e ↦ rw (e, expr_bodies-This, append-nil) | inr h ↦ rw (h.1, expr_bodies-SuperMember, append-nil) ] ]

pub of_expr-returns-in-Null-3 : goal.of_expr-returns-in-Null-3
of_expr-returns-in-Null-3 t c = elim c.in-Null.is [ inl e ↦ rw (e, expr_bodies-Null, append-nil) | inr h ↦ elim h [ inl e ↦ rw (e, expr_bodies-This, append-nil) | inr h ↦ rw (h.1, expr_bodies-SuperMember, append-nil) ] ]

pub of_expr-returns-in-Name : goal.of_expr-returns-in-Name
of_expr-returns-in-Name t c = elim c.in-Name.is [ inl e ↦ rw (e.1, expr_bodies-Name, append-nil) | inr h ↦ elim h [ inl e ↦ rw (e.1, expr_bodies-Number, append-nil) | inr h ↦ elim h [ inl e ↦ rw (e.1, expr_bodies-Text, append-nil) | inr h ↦ rw (h.1, expr_bodies-Bool, append-nil) ] ] ]

pub of_expr-returns-in-Name-2 : goal.of_expr-returns-in-Name-2
of_expr-returns-in-Name-2 t c = elim c.in-Name.is [ inl e ↦ rw (e.1, expr_bodies-Name, append-nil) | inr h ↦ elim h [ inl e ↦ rw (e.1, expr_bodies-Number, append-nil) | inr h ↦ elim h [ inl e ↦ rw (e.1, expr_bodies-Text, append-nil) | inr h ↦ rw (h.1, expr_bodies-Bool, append-nil) ] ] ]

pub of_expr-returns-in-Name-3 : goal.of_expr-returns-in-Name-3
of_expr-returns-in-Name-3 t c = elim c.in-Name.is [ inl e ↦ rw (e.1, expr_bodies-Name, append-nil) | inr h ↦ elim h [ inl e ↦ rw (e.1, expr_bodies-Number, append-nil) | inr h ↦ elim h [ inl e ↦ rw (e.1, expr_bodies-Text, append-nil) | inr h ↦ rw (h.1, expr_bodies-Bool, append-nil) ] ] ]

pub of_expr-returns-in-Name-4 : goal.of_expr-returns-in-Name-4
of_expr-returns-in-Name-4 t c = elim c.in-Name.is [ inl e ↦ rw (e.1, expr_bodies-Name, append-nil) | inr h ↦ elim h [ inl e ↦ rw (e.1, expr_bodies-Number, append-nil) | inr h ↦ elim h [ inl e ↦ rw (e.1, expr_bodies-Text, append-nil) | inr h ↦ rw (h.1, expr_bodies-Bool, append-nil) ] ] ]

pub of_expr-returns-in-Array : goal.of_expr-returns-in-Array
of_expr-returns-in-Array t c = let last = rw c.as_slice-in-Array.ensures at c.of_arguments-in-Array.ensures in elim c.in-Array.is [ inl e ↦ rw (e, expr_bodies-Array) last | inr h ↦ rw (h, expr_bodies-SuperCall) last ]

pub of_expr-returns-in-Brackets : goal.of_expr-returns-in-Brackets
of_expr-returns-in-Brackets t c = let last = rw c.get-in-Brackets.ensures at c.of_expr-in-Brackets.ensures in elim c.in-Brackets.is [ inl e ↦ rw (e, expr_bodies-Brackets) last | inr h ↦ elim h [ inl e ↦ rw (e.1, expr_bodies-StepBefore) last | inr h ↦ elim h [ inl e ↦ rw (e.1, expr_bodies-StepAfter) last | inr h ↦ rw (h.1, expr_bodies-Unary) last ] ] ]

pub of_exprs-loop-tree-init : goal.of_exprs-loop-tree-init
of_exprs-loop-tree-init t c = (refl, c.requires)

pub of_exprs-of_expr-requires : goal.of_exprs-of_expr-requires
of_exprs-of_expr-requires t c = let h : c.loop-tree.tree-index < length c.args.trees.now = omega (arith, c.loop-tree-test.true) in let e = highest-drop levels.expr_levels c.args.trees.now c.loop-tree.tree-index c.tree-item.result h c.tree-item.is in (search (rules, the_lemmas), omega (arith, e, c.loop-tree.invariant.1))

pub of_exprs-loop-tree-preserved : goal.of_exprs-loop-tree-preserved
of_exprs-loop-tree-preserved t c = let h : c.loop-tree.tree-index < length c.args.trees.now = omega (arith, c.loop-tree-test.true) in let e = highest-drop levels.expr_levels c.args.trees.now c.loop-tree.tree-index c.tree-item.result h c.tree-item.is in (all_more bodies.expr_bodies c.args.trees.now c.loop-tree.tree-index c.tree-item.result c.args.depth c.loop-tree.found c.of_expr.new.found _ h c.tree-item.is c.in_ok-of_expr.ensures c.loop-tree.invariant.0, omega (arith, e, c.loop-tree.invariant.1))

pub of_exprs-returns : goal.of_exprs-returns
of_exprs-returns t c = let h : length c.args.trees.now ≤ c.loop-tree.tree-index = omega (arith, c.loop-tree-test.false) in all_done bodies.expr_bodies c.args.trees.now c.loop-tree.tree-index c.args.depth c.loop-tree.found _ h c.loop-tree.invariant.0

pub of_function-of_params-requires : goal.of_function-of_params-requires
of_function-of_params-requires t c = let r = rw (function_levels-fields) at c.requires in (search (rules, the_lemmas), omega (arith, r))

pub of_function-add-requires : goal.of_function-add-requires
of_function-add-requires t c = let r = rw (function_levels-fields) at c.requires in omega (arith, r)

pub of_function-returns : goal.of_function-returns
of_function-returns t c = let s1 = c.in_ok-of_params.ensures in let last = c.add.ensures in rw (function_bodies-fields, ← append_assoc c.args.found.now, ← s1) last

pub of_key-of_expr-requires : goal.of_key-of_expr-requires
of_key-of_expr-requires t c = let r = rw (c.in-Computed.is, key_levels-Computed) at c.requires in (search (rules, the_lemmas), rw c.get.ensures (omega (arith, r)))

pub of_key-returns-in-Computed : goal.of_key-returns-in-Computed
of_key-returns-in-Computed t c = let last = rw c.get.ensures at c.of_expr.ensures in rw (c.in-Computed.is, key_bodies-Computed) last

pub of_key-returns-in-Word : goal.of_key-returns-in-Word
of_key-returns-in-Word t c = elim c.in-Word.is [ inl e ↦ rw (e.1, key_bodies-Word, append-nil) | inr h ↦ elim h [ inl e ↦ rw (e.1, key_bodies-Text, append-nil) | inr h ↦ rw (h.1, key_bodies-Number, append-nil) ] ]

pub of_key-returns-in-Word-2 : goal.of_key-returns-in-Word-2
of_key-returns-in-Word-2 t c = elim c.in-Word.is [ inl e ↦ rw (e.1, key_bodies-Word, append-nil) | inr h ↦ elim h [ inl e ↦ rw (e.1, key_bodies-Text, append-nil) | inr h ↦ rw (h.1, key_bodies-Number, append-nil) ] ]

pub of_key-returns-in-Word-3 : goal.of_key-returns-in-Word-3
of_key-returns-in-Word-3 t c = elim c.in-Word.is [ inl e ↦ rw (e.1, key_bodies-Word, append-nil) | inr h ↦ elim h [ inl e ↦ rw (e.1, key_bodies-Text, append-nil) | inr h ↦ rw (h.1, key_bodies-Number, append-nil) ] ]

pub of_members-loop-member-init : goal.of_members-loop-member-init
of_members-loop-member-init t c = (refl, c.requires)

pub of_members-of_method-requires : goal.of_members-of_method-requires
of_members-of_method-requires t c = let h : c.loop-member.member-index < length c.args.members.now = omega (arith, c.loop-member-test.true) in let e = highest-drop levels.member_levels c.args.members.now c.loop-member.member-index c.member-item.result h c.member-item.is in (search (rules, the_lemmas), omega (arith, e, c.loop-member.invariant.1, member_levels-fields c.member-item.result))

pub of_members-loop-member-preserved : goal.of_members-loop-member-preserved
of_members-loop-member-preserved t c = let h : c.loop-member.member-index < length c.args.members.now = omega (arith, c.loop-member-test.true) in let e = highest-drop levels.member_levels c.args.members.now c.loop-member.member-index c.member-item.result h c.member-item.is in (all_more bodies.member_bodies c.args.members.now c.loop-member.member-index c.member-item.result c.args.depth c.loop-member.found c.of_method.new.found _ h c.member-item.is (rw (member_bodies-fields c.member-item.result c.args.depth) c.in_ok-of_method.ensures) c.loop-member.invariant.0, omega (arith, e, c.loop-member.invariant.1))

pub of_members-returns : goal.of_members-returns
of_members-returns t c = let h : length c.args.members.now ≤ c.loop-member.member-index = omega (arith, c.loop-member-test.false) in all_done bodies.member_bodies c.args.members.now c.loop-member.member-index c.args.depth c.loop-member.found _ h c.loop-member.invariant.0

pub of_method-of_key-requires : goal.of_method-of_key-requires
of_method-of_key-requires t c = let r = rw (method_levels-fields) at c.requires in (search (rules, the_lemmas), omega (arith, r))

pub of_method-of_params-requires : goal.of_method-of_params-requires
of_method-of_params-requires t c = let r = rw (method_levels-fields) at c.requires in (search (rules, the_lemmas), omega (arith, r))

pub of_method-add-requires : goal.of_method-add-requires
of_method-add-requires t c = let r = rw (method_levels-fields) at c.requires in omega (arith, r)

pub of_method-returns : goal.of_method-returns
of_method-returns t c = let s1 = c.in_ok-of_key.ensures in let s2 = c.in_ok-of_params.ensures in let last = c.add.ensures in rw (method_bodies-fields, ← append_assoc c.args.found.now, ← s1, ← append_assoc c.of_key.new.found, ← s2) last

pub of_operands-loop-operand-init : goal.of_operands-loop-operand-init
of_operands-loop-operand-init t c = (refl, c.requires)

pub of_operands-of_expr-requires : goal.of_operands-of_expr-requires
of_operands-of_expr-requires t c = let h : c.loop-operand.operand-index < length c.args.operands.now = omega (arith, c.loop-operand-test.true) in let e = highest-drop levels.operand_levels c.args.operands.now c.loop-operand.operand-index c.operand-item.result h c.operand-item.is in (search (rules, the_lemmas), omega (arith, e, c.loop-operand.invariant.1, operand_levels-fields c.operand-item.result))

pub of_operands-loop-operand-preserved : goal.of_operands-loop-operand-preserved
of_operands-loop-operand-preserved t c = let h : c.loop-operand.operand-index < length c.args.operands.now = omega (arith, c.loop-operand-test.true) in let e = highest-drop levels.operand_levels c.args.operands.now c.loop-operand.operand-index c.operand-item.result h c.operand-item.is in (all_more bodies.operand_bodies c.args.operands.now c.loop-operand.operand-index c.operand-item.result c.args.depth c.loop-operand.found c.of_expr.new.found _ h c.operand-item.is (rw (operand_bodies-fields c.operand-item.result c.args.depth) c.in_ok-of_expr.ensures) c.loop-operand.invariant.0, omega (arith, e, c.loop-operand.invariant.1))

pub of_operands-returns : goal.of_operands-returns
of_operands-returns t c = let h : length c.args.operands.now ≤ c.loop-operand.operand-index = omega (arith, c.loop-operand-test.false) in all_done bodies.operand_bodies c.args.operands.now c.loop-operand.operand-index c.args.depth c.loop-operand.found _ h c.loop-operand.invariant.0

pub of_optional-of_expr-requires : goal.of_optional-of_expr-requires
of_optional-of_expr-requires t c = let r = rw (c.in-Some.is) at c.requires in (search (rules, the_lemmas), rw c.get.ensures (omega (arith, r)))

pub of_optional-returns-in-Some : goal.of_optional-returns-in-Some
of_optional-returns-in-Some t c = let last = rw c.get.ensures at c.of_expr.ensures in rw (c.in-Some.is) last

pub of_optional-returns-in-None : goal.of_optional-returns-in-None
of_optional-returns-in-None t c = rw (c.in-None.is, append-nil)

pub of_params-of_elems-requires : goal.of_params-of_elems-requires
of_params-of_elems-requires t c = let r = rw (params_levels-fields) at c.requires in (search (rules, the_lemmas), rw c.as_slice.ensures (omega (arith, r)))

pub of_params-of_target-requires : goal.of_params-of_target-requires
of_params-of_target-requires t c = let r = rw (params_levels-fields, c.in-Some.is) at c.requires in (search (rules, the_lemmas), rw c.get.ensures (omega (arith, r)))

pub of_params-returns-in-Some : goal.of_params-returns-in-Some
of_params-returns-in-Some t c = let s1 = rw c.as_slice.ensures at c.in_ok-of_elems.ensures in let last = rw c.get.ensures at c.of_target.ensures in rw (params_bodies-fields, c.in-Some.is, ← append_assoc c.args.found.now, ← s1) last

pub of_params-returns-in-None : goal.of_params-returns-in-None
of_params-returns-in-None t c = let s1 = rw c.as_slice.ensures at c.in_ok-of_elems.ensures in rw (params_bodies-fields, c.in-None.is, append-nil) s1

pub of_pieces-loop-piece-init : goal.of_pieces-loop-piece-init
of_pieces-loop-piece-init t c = (refl, c.requires)

pub of_pieces-of_expr-requires : goal.of_pieces-of_expr-requires
of_pieces-of_expr-requires t c = let h : c.loop-piece.piece-index < length c.args.pieces.now = omega (arith, c.loop-piece-test.true) in let e = highest-drop levels.piece_levels c.args.pieces.now c.loop-piece.piece-index c.piece-item.result h c.piece-item.is in (search (rules, the_lemmas), omega (arith, e, c.loop-piece.invariant.1, piece_levels-fields c.piece-item.result))

pub of_pieces-loop-piece-preserved : goal.of_pieces-loop-piece-preserved
of_pieces-loop-piece-preserved t c = let h : c.loop-piece.piece-index < length c.args.pieces.now = omega (arith, c.loop-piece-test.true) in let e = highest-drop levels.piece_levels c.args.pieces.now c.loop-piece.piece-index c.piece-item.result h c.piece-item.is in (all_more bodies.piece_bodies c.args.pieces.now c.loop-piece.piece-index c.piece-item.result c.args.depth c.loop-piece.found c.of_expr.new.found _ h c.piece-item.is (rw (piece_bodies-fields c.piece-item.result c.args.depth) c.in_ok-of_expr.ensures) c.loop-piece.invariant.0, omega (arith, e, c.loop-piece.invariant.1))

pub of_pieces-returns : goal.of_pieces-returns
of_pieces-returns t c = let h : length c.args.pieces.now ≤ c.loop-piece.piece-index = omega (arith, c.loop-piece-test.false) in all_done bodies.piece_bodies c.args.pieces.now c.loop-piece.piece-index c.args.depth c.loop-piece.found _ h c.loop-piece.invariant.0

pub of_prop-of_optional-requires : goal.of_prop-of_optional-requires
of_prop-of_optional-requires t c = let r = rw (c.in-Shorthand.is, prop_levels-Shorthand) at c.requires in (search (rules, the_lemmas), omega (arith, r))

pub of_prop-of_key-requires : goal.of_prop-of_key-requires
of_prop-of_key-requires t c = let r = rw (c.in-Pair.is, prop_levels-Pair) at c.requires in (search (rules, the_lemmas), omega (arith, r))

pub of_prop-of_elem-requires : goal.of_prop-of_elem-requires
of_prop-of_elem-requires t c = let r = rw (c.in-Pair.is, prop_levels-Pair) at c.requires in (search (rules, the_lemmas), omega (arith, r))

pub of_prop-returns-in-Shorthand : goal.of_prop-returns-in-Shorthand
of_prop-returns-in-Shorthand t c = let last = c.of_optional.ensures in rw (c.in-Shorthand.is, prop_bodies-Shorthand) last

pub of_prop-returns-in_ok-of_key-in-Pair : goal.of_prop-returns-in_ok-of_key-in-Pair
of_prop-returns-in_ok-of_key-in-Pair t c = let s1 = c.in_ok-of_key-in-Pair.ensures in let last = c.of_elem.ensures in rw (c.in-Pair.is, prop_bodies-Pair, ← append_assoc c.args.found.now, ← s1) last

pub of_props-loop-prop-init : goal.of_props-loop-prop-init
of_props-loop-prop-init t c = (refl, c.requires)

pub of_props-of_prop-requires : goal.of_props-of_prop-requires
of_props-of_prop-requires t c = let h : c.loop-prop.prop-index < length c.args.props.now = omega (arith, c.loop-prop-test.true) in let e = highest-drop levels.prop_levels c.args.props.now c.loop-prop.prop-index c.prop-item.result h c.prop-item.is in (search (rules, the_lemmas), omega (arith, e, c.loop-prop.invariant.1))

pub of_props-loop-prop-preserved : goal.of_props-loop-prop-preserved
of_props-loop-prop-preserved t c = let h : c.loop-prop.prop-index < length c.args.props.now = omega (arith, c.loop-prop-test.true) in let e = highest-drop levels.prop_levels c.args.props.now c.loop-prop.prop-index c.prop-item.result h c.prop-item.is in (all_more bodies.prop_bodies c.args.props.now c.loop-prop.prop-index c.prop-item.result c.args.depth c.loop-prop.found c.of_prop.new.found _ h c.prop-item.is c.in_ok-of_prop.ensures c.loop-prop.invariant.0, omega (arith, e, c.loop-prop.invariant.1))

pub of_props-returns : goal.of_props-returns
of_props-returns t c = let h : length c.args.props.now ≤ c.loop-prop.prop-index = omega (arith, c.loop-prop-test.false) in all_done bodies.prop_bodies c.args.props.now c.loop-prop.prop-index c.args.depth c.loop-prop.found _ h c.loop-prop.invariant.0

pub of_suffix-of_expr-requires : goal.of_suffix-of_expr-requires
of_suffix-of_expr-requires t c = let r = rw (c.in-Index.is, suffix_levels-Index) at c.requires in (search (rules, the_lemmas), omega (arith, r))

pub of_suffix-of_arguments-requires : goal.of_suffix-of_arguments-requires
of_suffix-of_arguments-requires t c = let r = rw (c.in-Call.is, suffix_levels-Call) at c.requires in (search (rules, the_lemmas), rw c.as_slice.ensures (omega (arith, r)))

pub of_suffix-returns-in-Member : goal.of_suffix-returns-in-Member
of_suffix-returns-in-Member t c = rw (c.in-Member.is, suffix_bodies-Member, append-nil)

pub of_suffix-returns-in-Index : goal.of_suffix-returns-in-Index
of_suffix-returns-in-Index t c = let last = c.of_expr.ensures in rw (c.in-Index.is, suffix_bodies-Index) last

pub of_suffix-returns-in-Call : goal.of_suffix-returns-in-Call
of_suffix-returns-in-Call t c = let last = rw c.as_slice.ensures at c.of_arguments.ensures in rw (c.in-Call.is, suffix_bodies-Call) last

pub of_suffixes-loop-suffix-init : goal.of_suffixes-loop-suffix-init
of_suffixes-loop-suffix-init t c = (refl, c.requires)

pub of_suffixes-of_suffix-requires : goal.of_suffixes-of_suffix-requires
of_suffixes-of_suffix-requires t c = let h : c.loop-suffix.suffix-index < length c.args.suffixes.now = omega (arith, c.loop-suffix-test.true) in let e = highest-drop levels.suffix_levels c.args.suffixes.now c.loop-suffix.suffix-index c.suffix-item.result h c.suffix-item.is in (search (rules, the_lemmas), omega (arith, e, c.loop-suffix.invariant.1))

pub of_suffixes-loop-suffix-preserved : goal.of_suffixes-loop-suffix-preserved
of_suffixes-loop-suffix-preserved t c = let h : c.loop-suffix.suffix-index < length c.args.suffixes.now = omega (arith, c.loop-suffix-test.true) in let e = highest-drop levels.suffix_levels c.args.suffixes.now c.loop-suffix.suffix-index c.suffix-item.result h c.suffix-item.is in (all_more bodies.suffix_bodies c.args.suffixes.now c.loop-suffix.suffix-index c.suffix-item.result c.args.depth c.loop-suffix.found c.of_suffix.new.found _ h c.suffix-item.is c.in_ok-of_suffix.ensures c.loop-suffix.invariant.0, omega (arith, e, c.loop-suffix.invariant.1))

pub of_suffixes-returns : goal.of_suffixes-returns
of_suffixes-returns t c = let h : length c.args.suffixes.now ≤ c.loop-suffix.suffix-index = omega (arith, c.loop-suffix-test.false) in all_done bodies.suffix_bodies c.args.suffixes.now c.loop-suffix.suffix-index c.args.depth c.loop-suffix.found _ h c.loop-suffix.invariant.0

pub of_target-of_props-requires : goal.of_target-of_props-requires
of_target-of_props-requires t c = let r = rw (c.in-Object.is, target_levels-Object) at c.requires in (search (rules, the_lemmas), rw c.as_slice.ensures (omega (arith, r)))

pub of_target-of_elems-requires : goal.of_target-of_elems-requires
of_target-of_elems-requires t c = let r = rw (c.in-Array.is, target_levels-Array) at c.requires in (search (rules, the_lemmas), rw c.as_slice-in-Array.ensures (omega (arith, r)))

pub of_target-returns-in-Name : goal.of_target-returns-in-Name
of_target-returns-in-Name t c = rw (c.in-Name.is, target_bodies-Name, append-nil)

pub of_target-returns-in-Object : goal.of_target-returns-in-Object
of_target-returns-in-Object t c = let last = rw c.as_slice.ensures at c.of_props.ensures in rw (c.in-Object.is, target_bodies-Object) last

pub of_target-returns-in-Array : goal.of_target-returns-in-Array
of_target-returns-in-Array t c = let last = rw c.as_slice-in-Array.ensures at c.of_elems.ensures in rw (c.in-Array.is, target_bodies-Array) last
