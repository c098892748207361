-- A search over the numbers from one up to another, one number at a time.
use Rattle.std.proofs.Common.{◌≡◌, ℕ, suc, ◌<◌, ◌≤◌, ◌+◌, ◌-◌, Bool, true, false, cond, Some, None, ap, ◌∙◌, arith}
use Rattle.std.specs.List.{find, range_with_len}

pub found_here : (p : ℕ → Bool) (i n : ℕ) → i < n → p i ≡ true → find p (range_with_len i (n - i)) ≡ Some i
found_here p i n below good =
    let e : n - i ≡ suc (n - (i + 1)) = omega arith in
    ap (λ k. find p (range_with_len i k)) e ∙ ap (λ b. cond b (Some i) (find p (range_with_len (i + 1) (n - (i + 1))))) good

pub found_later : (p : ℕ → Bool) (i n : ℕ) → i < n → p i ≡ false → find p (range_with_len i (n - i)) ≡ find p (range_with_len (i + 1) (n - (i + 1)))
found_later p i n below bad =
    let e : n - i ≡ suc (n - (i + 1)) = omega arith in
    ap (λ k. find p (range_with_len i k)) e ∙ ap (λ b. cond b (Some i) (find p (range_with_len (i + 1) (n - (i + 1))))) bad

pub found_nowhere : (p : ℕ → Bool) (i n : ℕ) → n ≤ i → find p (range_with_len i (n - i)) ≡ None
found_nowhere p i n past = let e : n - i ≡ 0 = omega arith in ap (λ k. find p (range_with_len i k)) e
