-- Limits that hold, and the last step of a run.
use Rattle.std.proofs.Common.{◌≡◌, ℕ, zero, suc, ◌+◌, ◌<◌, ◌≤◌, nat_lt, Bool, true, false, ◌&&◌, [], ◌++◌, length, Option, Some, None, if◌then◌else◌, refl, sym, ap, ◌∙◌, subst, ◌⊎◌, inl, inr, arith}
use Rattle.std.proofs.lemmas.Bool.{le-ltb}
use Rattle.std.proofs.lemmas.Bool.Decides.{nat_tests}
use Rattle.std.proofs.Math.Bool.{and-false}
use Rattle.std.proofs.Math.Nat.{eq-or-lt_of_le, le_of_suc-le-suc}
use Rattle.std.specs.Option.{option_map}
use Rattle.actx_value.specs.Texts.{units_of}
use Rattle.actx_value.specs.declared.end.Which.{Which}
use Rattle.actx_value.specs.declared.end.Which.TheVariants.{Calls, Objects, Properties, Cells, Text, Bindings, Variables, Resources, Turns}
use Rattle.actx_cells.specs.Scopes.{count_of}
use Rattle.actx_objects.specs.Objects.{property_count}
use Rattle.actx_request.specs.Outcomes.{Stores}
use Rattle.actx_request.specs.Limits.{goes_above, first_above as above_by_request}
use Rattle.actx_world.specs.Setup.{Bodies, Setup}
use Rattle.actx_world.specs.Moves.{Next, On, TurnDue, Over, Unbuilt}
use Rattle.actx_world.specs.Ends.{Most, first_above, above_in_stores, Ended, ended_by}
use Rattle.actx_world.specs.Worlds.{opening, World, moved_by, next_of, end_of, step, world, Last, EndedBy, Budget, last_unless, last_past, last_from, last_of}
use Rattle.actx_world.specs.Laws.{SameLimits, IsLast}

-- ---- no count is ever above its limit

choice : (t : Bool) (w : Which) (later : Option Which) → t ≡ false → later ≡ None → (if t then Some w else later) ≡ None
choice t w later p q = ap (λ b. if b then Some w else later) p ∙ q

below : (most n : ℕ) → nat_lt (most + n) n ≡ false
below most n = le-ltb (most + n) n (omega arith)

zero_below : (most : ℕ) → nat_lt most 0 ≡ false
zero_below most = le-ltb most 0 (omega arith)

opening_within : (B : Type 0) (most : Most) (stores : Stores) → first_above {B = B} most (opening most stores) [] ≡ None
opening_within B most stores =
    choice _ Calls _ (zero_below most.calls)
    (choice _ Objects _ (below most.objects (length stores.objects.objects))
    (choice _ Properties _ (below most.properties (property_count stores.objects.objects))
    (choice _ Cells _ (below most.cells (count_of stores.cells.scopes))
    (choice _ Text _ (below most.text (units_of stores.texts.texts))
    (choice _ Bindings _ (zero_below most.bindings)
    (choice _ Variables _ (zero_below most.variables)
    (choice _ Resources _ (zero_below most.resources)
    (choice _ Turns _ (zero_below most.turns) refl))))))))

none_of_map : {A C : Type 0} (f : A → C) (o : Option A) → option_map f o ≡ None → o ≡ None
none_of_map f None h = refl
none_of_map f (Some a) h = absurd cc

moved_within : {B : Type 0} (most : Most) (e : Option Ended) (n : Next B) (w : World B) → ended_by most w.state w.events n ≡ e → first_above most w.state w.events ≡ None → first_above most (moved_by e n w).state (moved_by e n w).events ≡ None
moved_within most None (On m) w q h = none_of_map _ (first_above most m.state (m.adds ++ w.events)) q
moved_within most None TurnDue w q h = h
moved_within most None (Over e) w q h = h
moved_within most None Unbuilt w q h = h
moved_within most (Some e) n w q h = h

-- ---- requests

-- where it was not above before, a count goes above its limit exactly where it is above after
goes_where : (limit limit' before after : ℕ) → limit ≡ limit' → nat_lt limit before ≡ false → goes_above limit before after ≡ nat_lt limit' after
goes_where limit limit' before after same h = go (nat_lt limit after) refl ∙ ap (λ n. nat_lt n after) same
  where
    go : (t : Bool) → nat_lt limit after ≡ t → (nat_lt before after && nat_lt limit after) ≡ nat_lt limit after
    go true p = let more : nat_lt before after ≡ true = grind (arith, nat_tests) in ap (λ t. t && nat_lt limit after) more
    go false p = ap (λ t. nat_lt before after && t) p ∙ (and-false (nat_lt before after) ∙ sym p)

none_chosen : (t : Bool) (w : Which) (later : Option Which) → (if t then Some w else later) ≡ None → (t ≡ false) × (later ≡ None)
none_chosen true w later h = absurd cc
none_chosen false w later h = (refl, h)

pub requests_meet : (before after : Stores) → SameLimits before after → above_in_stores before None ≡ None → above_by_request before after ≡ above_in_stores after None
requests_meet before after same h =
    let o = none_chosen (nat_lt before.objects.most_objects (length before.objects.objects)) Objects _ h in
    let p = none_chosen (nat_lt before.objects.most_properties (property_count before.objects.objects)) Properties _ o.1 in
    let c = none_chosen (nat_lt before.cells.limit (count_of before.cells.scopes)) Cells _ p.1 in
    let t = none_chosen (nat_lt before.texts.limit (units_of before.texts.texts)) Text None c.1 in
    let objects = goes_where before.objects.most_objects after.objects.most_objects (length before.objects.objects) (length after.objects.objects) same.objects o.0 in
    let properties = goes_where before.objects.most_properties after.objects.most_properties (property_count before.objects.objects) (property_count after.objects.objects) same.properties p.0 in
    let cells = goes_where before.cells.limit after.cells.limit (count_of before.cells.scopes) (count_of after.cells.scopes) same.cells c.0 in
    let text = goes_where before.texts.limit after.texts.limit (units_of before.texts.texts) (units_of after.texts.texts) same.text t.0 in
    λ i. if objects i then Some Objects else if properties i then Some Properties else if cells i then Some Cells else if text i then Some Text else None

-- ---- the last step

same_end : (e f : Ended) → EndedBy e ≡ EndedBy f → e ≡ f
same_end e f h = cc

module _ {B : Type 0} (bodies : Bodies B) (setup : Setup) (most : Most) (stores : Stores) where
  pub limits_hold : (k : ℕ) → first_above most (world bodies setup most stores k).state (world bodies setup most stores k).events ≡ None
  limits_hold zero = opening_within B most stores
  limits_hold (suc k) =
      let w = world bodies setup most stores k in
      moved_within most (end_of bodies setup most w) (next_of bodies setup most w) w refl (limits_hold k)

  -- no end holds before
  abbrev Unended : ℕ → Type 0
  Unended k = (j : ℕ) → j < k → end_of bodies setup most (world bodies setup most stores j) ≡ None

  at_end : (k total : ℕ) (e : Ended) → k ≤ total → Unended k → end_of bodies setup most (world bodies setup most stores k) ≡ Some e → IsLast bodies setup most stores total (record { moves = k; ending = EndedBy e })
  at_end k total e within before q = record { within = within; earlier = before; ended = λ f p. q ∙ ap Some (same_end e f p); used_up = λ p. absurd cc; due = λ p. absurd cc }

  at_budget : (k : ℕ) (e : Option Ended) → Unended k → end_of bodies setup most (world bodies setup most stores k) ≡ e → IsLast bodies setup most stores k (last_unless e k (record { moves = k; ending = Budget }))
  at_budget k (Some e) before q = at_end k k e (omega arith) before q
  at_budget k None before q = record { within = omega arith; earlier = before; ended = λ f p. absurd cc; used_up = λ p. (refl, q); due = λ p. absurd cc }

  at_turn : (k total : ℕ) (n : Next B) (later : Last) → k ≤ total → Unended k → end_of bodies setup most (world bodies setup most stores k) ≡ None → next_of bodies setup most (world bodies setup most stores k) ≡ n → IsLast bodies setup most stores total later → IsLast bodies setup most stores total (last_past n k later)
  at_turn k total TurnDue later within before q p r = record { within = within; earlier = before; ended = λ f x. absurd cc; used_up = λ x. absurd cc; due = λ x. (p, q) }
  at_turn k total (On m) later within before q p r = r
  at_turn k total (Over e) later within before q p r = r
  at_turn k total Unbuilt later within before q p r = r

  at_step : (k total : ℕ) (e : Option Ended) (later : Last) → k ≤ total → Unended k → end_of bodies setup most (world bodies setup most stores k) ≡ e → (end_of bodies setup most (world bodies setup most stores k) ≡ None → IsLast bodies setup most stores total later) → IsLast bodies setup most stores total (last_unless e k (last_past (next_of bodies setup most (world bodies setup most stores k)) k later))
  at_step k total (Some e) later within before q r = at_end k total e within before q
  at_step k total None later within before q r = at_turn k total (next_of bodies setup most (world bodies setup most stores k)) later within before q refl (r q)

  one_more : (k : ℕ) → Unended k → end_of bodies setup most (world bodies setup most stores k) ≡ None → Unended (suc k)
  one_more k before q j h = by (eq-or-lt_of_le (le_of_suc-le-suc h))
    where
      by : (j ≡ k) ⊎ (j < k) → end_of bodies setup most (world bodies setup most stores j) ≡ None
      by (inl same) = ap (λ n. end_of bodies setup most (world bodies setup most stores n)) same ∙ q
      by (inr less) = before j less

  from : (n k total : ℕ) → k + n ≡ total → Unended k → IsLast bodies setup most stores total (last_from bodies setup most n k (world bodies setup most stores k))
  from zero k total is before =
      subst (λ t. IsLast bodies setup most stores t (last_from bodies setup most zero k (world bodies setup most stores k))) (omega arith)
      (at_budget k (end_of bodies setup most (world bodies setup most stores k)) before refl)
  from (suc n) k total is before =
      at_step k total (end_of bodies setup most (world bodies setup most stores k)) (last_from bodies setup most n (suc k) (world bodies setup most stores (suc k))) (omega arith) before refl
      (λ q. from n (suc k) total (omega arith) (one_more k before q))

  pub last_is_first : (budget : ℕ) → IsLast bodies setup most stores budget (last_of bodies setup most stores budget)
  last_is_first budget = from budget 0 budget (omega arith) (λ j h. absurd (omega arith))

  pub ended_stays : (k n : ℕ) (e : Ended) → end_of bodies setup most (world bodies setup most stores k) ≡ Some e → world bodies setup most stores (n + k) ≡ world bodies setup most stores k
  ended_stays k zero e q = let none_more : 0 + k ≡ k = omega arith in ap (world bodies setup most stores) none_more
  ended_stays k (suc n) e q =
      let w = world bodies setup most stores k in
      let one_more : suc n + k ≡ suc (n + k) = omega arith in
      ap (world bodies setup most stores) one_more
      ∙ (ap (step bodies setup most) (ended_stays k n e q)
      ∙ ap (λ x. moved_by x (next_of bodies setup most w) w) q)
