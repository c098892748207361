-- How requests, values and loops keep meanings local.
use Rattle.std.proofs.Common.{◌≡◌, ℕ, zero, suc, ◌≤◌, Bool, true, false, List, [], ◌∷◌, length, refl, arith}
use Rattle.std.specs.Prelude.{if◌then◌else◌}
use Rattle.actx_value.specs.declared.value.Value.{Value}
use Rattle.actx_value.specs.declared.request.Request.{Request}
use Rattle.actx_value.specs.declared.request.Request.TheVariants as requests
use Rattle.actx_value.specs.declared.value.Answer.{Answer}
use Rattle.actx_want.specs.declared.completion.Completion.TheVariants.{Normal, Break, Continue, Return, Throw}
use Rattle.actx_want.specs.Run.{Run, Next', Turn, completion, ask, asks, on_value, before, keeping, turns, loop}
use Rattle.actx_want.specs.Locality.{Same, Agree}

pub asks_same : (r : Request) (list : List Value) (n : ℕ) {k l : Next'} → Agree n k l → Same n (asks r list k) (asks r list l)
asks_same r list n h [] le = refl
asks_same r list n h (a ∷ bs) le = h (completion a) bs (omega arith)

pub value_agree : {f g : Value → Run} {n : ℕ} {k l : Next'} → ((v : Value) → Same n (f v) (g v)) → Agree n k l → Agree n (on_value f k) (on_value g l)
value_agree fg h (Normal v) = fg v
value_agree fg h (Break m) = h (Break m)
value_agree fg h (Continue m) = h (Continue m)
value_agree fg h (Return v) = h (Return v)
value_agree fg h (Throw v) = h (Throw v)

pub keeping_agree : (v : Value) (n : ℕ) {k l : Next'} → Agree n k l → Agree n (keeping v k) (keeping v l)
keeping_agree v n h = value_agree (λ _. h (Normal v)) h

pub if_same : (b : Bool) {n : ℕ} {r s x y : Run} → Same n r x → Same n s y → Same n (if b then r else s) (if b then x else y)
if_same true h i = h
if_same false h i = i

pub before_agree : {r s : Run} (n : ℕ) {k l : Next'} → Same n r s → Agree n k l → Agree n (before r k) (before s l)
before_agree n rs h = value_agree (λ _. rs) h

pub same_below : {n m : ℕ} {r s : Run} → m ≤ n → Same n r s → Same m r s
same_below le h bs lb = h bs (omega arith)

pub agree_below : {n m : ℕ} {k l : Next'} → m ≤ n → Agree n k l → Agree m k l
agree_below le h c bs lb = h c bs (omega arith)

-- every member of a list
abbrev pub Alls : {A : Type 0} → (A → Type 0) → List A → Type 0
Alls Q [] = Unit {0}
Alls Q (x ∷ xs) = Q x × Alls Q xs

-- ---- loops

-- a turn looks at the next turns, too, only on the rest of the answers
abbrev pub IsLocalTurn : {S : Type 0} → ℕ → Turn S → Turn S → Type 0
IsLocalTurn {S = S} m t u = (n : ℕ) → n ≤ m → (f g : S → Run) → ((s : S) → Same n (f s) (g s)) → (s : S) → Agree n (t f s) (u g s)

module _ {S : Type 0} (t u : Turn S) (m : ℕ) (lt : IsLocalTurn m t u) where
  pub turns_same : (i j n : ℕ) → n ≤ suc m → n ≤ i → n ≤ j → (s : S) → Same n (turns t i s) (turns u j s)
  unfolding turns
  turns_same zero zero n lm li lj s bs le = refl
  turns_same zero (suc j) n lm li lj s [] le = refl
  turns_same zero (suc j) n lm li lj s (a ∷ bs) le = absurd (omega arith)
  turns_same (suc i) zero n lm li lj s [] le = refl
  turns_same (suc i) zero n lm li lj s (a ∷ bs) le = absurd (omega arith)
  turns_same (suc i) (suc j) n lm li lj s [] le = refl
  turns_same (suc i) (suc j) n lm li lj s (a ∷ bs) le =
      lt (length bs) (omega arith) (turns t i) (turns u j) (λ s'. turns_same i j (length bs) (omega arith) (omega arith) (omega arith) s') s (completion a) bs (omega arith)

  pub loop_same : (n : ℕ) → n ≤ suc m → (s : S) → Same n (loop t s) (loop u s)
  unfolding loop
  loop_same n lm s bs le = turns_same (length bs) (length bs) (length bs) (omega arith) (omega arith) (omega arith) s bs (omega arith)

-- a loop is its first turn, and the loop again
pub loop_law : {S : Type 0} (t : Turn S) → ((m : ℕ) → IsLocalTurn m t t) → (s : S) (bs : List Answer) → loop t s bs ≡ ask requests.Tick (t (loop t) s) bs
unfolding loop turns
loop_law t lt s [] = refl
loop_law t lt s (a ∷ bs) =
    lt (length bs) (length bs) (omega arith) (turns t (length bs)) (loop t)
    (λ s' cs lc. turns_same t t (length bs) (lt (length bs)) (length bs) (length cs) (length cs) (omega arith) lc (omega arith) s' cs (omega arith)) s (completion a) bs (omega arith)
