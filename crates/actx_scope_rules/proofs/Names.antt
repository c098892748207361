-- Names and slots of lists of parts.
use Rattle.std.proofs.Common.{◌≡◌, ℕ, ◌+◌, ◌<◌, ◌≤◌, Bool, true, false, ◌||◌, List, [], ◌∷◌, ◌++◌, length, get_or, map, drop, refl, sym, ap, ◌∙◌, append_assoc, Option, Some, None}
use Rattle.std.specs.Prelude.{if◌then◌else◌}
use Rattle.std.proofs.lemmas.List.{append-nil}
use Rattle.std.proofs.lemmas.List.Elements.{filter_map-append}
use Rattle.actx_text.specs.declared.units.Units.{Units}
use Rattle.actx_tree.specs.declared.stmt.Stmt.{Stmt}
use Rattle.actx_scope_rules.specs.Statements.{statement, all_slots}
use Rattle.actx_scope_rules.specs.declared.slot.Slot.{Slot}
use Rattle.actx_scope_rules.specs.Words.{is_word}
use Rattle.actx_scope_rules.specs.Scopes.{Scope, slots_of, slot_names, last_slot, or_else}
use Rattle.actx_scope_rules.specs.Nodes.{Part, all_names, any_repeats, rest_names, listed}
use Rattle.actx_scope_rules.proofs.Lists.{left, done, or-assoc}

pub slots_of-append : (b : Bool) (xs ys : List Units) → slots_of b (xs ++ ys) ≡ slots_of b xs ++ slots_of b ys
slots_of-append b [] ys = refl
slots_of-append b (x ∷ xs) ys = ap (λ z. record { name = Some x; is_fixed = b } ∷ z) (slots_of-append b xs ys)

pub slot_names-of : (b : Bool) (xs : List Units) → slot_names (slots_of b xs) ≡ xs
slot_names-of b [] = refl
slot_names-of b (x ∷ xs) = ap (λ z. x ∷ z) (slot_names-of b xs)

pub slot_names-append : (xs ys : Scope) → slot_names (xs ++ ys) ≡ slot_names xs ++ slot_names ys
slot_names-append xs ys = filter_map-append (λ (s : Slot). s.name) xs ys

pub all_names-append : (ps qs : List Part) → all_names (ps ++ qs) ≡ all_names ps ++ all_names qs
all_names-append [] qs = refl
all_names-append (p ∷ ps) qs = ap (λ z. p.names ++ z) (all_names-append ps qs) ∙ sym (append_assoc p.names (all_names ps) (all_names qs))

pub rest-names : (rest : Option Units) → all_names (rest_names rest) ≡ listed rest
rest-names None = refl
rest-names (Some name) = refl

-- the slots of a pattern: those of its parts, and that of the name after `...`
pub pattern-slots : (b : Bool) (ps : List Part) (rest : Option Units) → slots_of b (all_names (ps ++ rest_names rest)) ≡ slots_of b (all_names ps) ++ slots_of b (listed rest)
pattern-slots b ps rest = ap (λ z. slots_of b z) (all_names-append ps (rest_names rest) ∙ ap (λ z. all_names ps ++ z) (rest-names rest)) ∙ slots_of-append b (all_names ps) (listed rest)

-- the slots of parameters
pub params-slots : (ps : List Part) (rest : Option Part) → slots_of false (all_names (ps ++ listed rest)) ≡ slots_of false (all_names ps) ++ slots_of false (all_names (listed rest))
params-slots ps rest = ap (λ z. slots_of false z) (all_names-append ps (listed rest)) ∙ slots_of-append false (all_names ps) (all_names (listed rest))

pub any_repeats-append : (ps qs : List Part) (e : List Units) → any_repeats (ps ++ qs) e ≡ (any_repeats ps e || any_repeats qs (e ++ all_names ps))
any_repeats-append [] qs e = ap (λ z. any_repeats qs z) (sym (append-nil e))
any_repeats-append (p ∷ ps) qs e = ap (λ z. p.repeats e || z) (any_repeats-append ps qs (e ++ p.names))
    ∙ (sym (or-assoc (p.repeats e) (any_repeats ps (e ++ p.names)) (any_repeats qs ((e ++ p.names) ++ all_names ps)))
    ∙ ap (λ z. (p.repeats e || any_repeats ps (e ++ p.names)) || any_repeats qs z) (append_assoc e p.names (all_names ps)))

pub names-left : {X : Type 0} (f : X → Part) (xs : List X) (i : ℕ) (x : X) → i < length xs → x ≡ get_or xs i x → all_names (map f (drop i xs)) ≡ (f x).names ++ all_names (map f (drop (i + 1) xs))
names-left f xs i x h e = ap (λ z. all_names (map f z)) (left xs i x h e)

pub names-done : {X : Type 0} (f : X → Part) (xs : List X) (i : ℕ) → length xs ≤ i → all_names (map f (drop i xs)) ≡ []
names-done f xs i h = ap (λ z. all_names (map f z)) (done xs i h)

pub slots-left : {X : Type 0} (f : X → Part) (b : Bool) (xs : List X) (i : ℕ) (x : X) → i < length xs → x ≡ get_or xs i x
    → slots_of b (all_names (map f (drop i xs))) ≡ slots_of b (f x).names ++ slots_of b (all_names (map f (drop (i + 1) xs)))
slots-left f b xs i x h e = ap (λ z. slots_of b z) (names-left f xs i x h e) ∙ slots_of-append b (f x).names (all_names (map f (drop (i + 1) xs)))

pub slots-done : {X : Type 0} (f : X → Part) (b : Bool) (xs : List X) (i : ℕ) → length xs ≤ i → slots_of b (all_names (map f (drop i xs))) ≡ []
slots-done f b xs i h = ap (λ z. slots_of b z) (names-done f xs i h)

-- what is left to be asked, behind the names so far
pub repeats_more : {X : Type 0} (f : X → Part) (xs : List X) (i : ℕ) (x : X) (before after whole : Bool) (e d : List Units) → i < length xs → x ≡ get_or xs i x → after ≡ (before || (f x).repeats e)
    → d ≡ e ++ (f x).names → (before || any_repeats (map f (drop i xs)) e) ≡ whole → (after || any_repeats (map f (drop (i + 1) xs)) d) ≡ whole
repeats_more f xs i x before after whole e d h is step names keeps =
    let rest : Bool = any_repeats (map f (drop (i + 1) xs)) (e ++ (f x).names) in
    ap (λ z. z || any_repeats (map f (drop (i + 1) xs)) d) step
    ∙ (ap (λ z. (before || (f x).repeats e) || any_repeats (map f (drop (i + 1) xs)) z) names
    ∙ (or-assoc before ((f x).repeats e) rest
    ∙ (ap (λ z. before || any_repeats (map f z) e) (sym (left xs i x h is)) ∙ keeps)))

pub repeats_done : {X : Type 0} (f : X → Part) (xs : List X) (i : ℕ) (b whole : Bool) (e : List Units) → length xs ≤ i → (b || any_repeats (map f (drop i xs)) e) ≡ whole → b ≡ whole
repeats_done f xs i true whole e h keeps = keeps
repeats_done f xs i false whole e h keeps = sym (ap (λ z. any_repeats (map f z) e) (done xs i h)) ∙ keeps

-- ---- slots of a name

pub or_else-assoc : (a b c : Option (ℕ × Bool)) → or_else (or_else a b) c ≡ or_else a (or_else b c)
or_else-assoc None b c = refl
or_else-assoc (Some x) b c = refl

abbrev pub here : Units → Slot → ℕ → Option (ℕ × Bool)
here name s i = if is_word name s.name then Some (i, s.is_fixed) else None

pub last_step : (name : Units) (all rest : Scope) (i : ℕ) (x : Slot) (before after whole : Option (ℕ × Bool)) → all ≡ x ∷ rest → after ≡ or_else (here name x i) before
    → or_else (last_slot name all i) before ≡ whole → or_else (last_slot name rest (i + 1)) after ≡ whole
unfolding last_slot
last_step name all rest i x before after whole e step keeps =
    ap (λ z. or_else (last_slot name rest (i + 1)) z) step
    ∙ (sym (or_else-assoc (last_slot name rest (i + 1)) (here name x i) before)
    ∙ (ap (λ z. or_else (last_slot name z i) before) (sym e) ∙ keeps))

pub last_done : (name : Units) (all : Scope) (i : ℕ) (found whole : Option (ℕ × Bool)) → all ≡ [] → or_else (last_slot name all i) found ≡ whole → found ≡ whole
unfolding last_slot
last_done name all i found whole h keeps = sym (ap (λ z. or_else (last_slot name z i) found) h) ∙ keeps

-- ---- names of slots

pub slot_names-left : (xs : Scope) (i : ℕ) (x : Slot) → i < length xs → x ≡ get_or xs i x → slot_names (drop i xs) ≡ slot_names (x ∷ []) ++ slot_names (drop (i + 1) xs)
slot_names-left xs i x h e = ap (λ z. slot_names z) (left xs i x h e) ∙ slot_names-append (x ∷ []) (drop (i + 1) xs)

pub slot_names-done : (xs : Scope) (i : ℕ) → length xs ≤ i → slot_names (drop i xs) ≡ []
slot_names-done xs i h = ap (λ z. slot_names z) (done xs i h)

-- ---- slots of statements

pub slots-left_of_stmts : (xs : List Stmt) (i : ℕ) (x : Stmt) → i < length xs → x ≡ get_or xs i x
    → all_slots (map statement (drop i xs)) ≡ (statement x).slots ++ all_slots (map statement (drop (i + 1) xs))
slots-left_of_stmts xs i x h e = ap (λ z. all_slots (map statement z)) (left xs i x h e)

pub slots-done_of_stmts : (xs : List Stmt) (i : ℕ) → length xs ≤ i → all_slots (map statement (drop i xs)) ≡ []
slots-done_of_stmts xs i h = ap (λ z. all_slots (map statement z)) (done xs i h)
