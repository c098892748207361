-- Copies of a text, one after another.
use Rattle.std.proofs.Common.{◌≡◌, ℕ, zero, suc, ◌<◌, ◌≤◌, ◌+◌, ◌*◌, ◌/◌, ◌%◌, List, [], ◌∷◌, ◌++◌, length, take, drop, refl, sym, ap, ◌∙◌, subst, arith}
use Rattle.std.proofs.lemmas.List.{append-nil, append_assoc, length-append, take-append-le, take_at, drop_at, nil_from_length}
use Rattle.std.proofs.Math.Nat.{mul-le-mul_left}
use Rattle.std.proofs.Math.Seq.{take-add}
use Rattle.std.specs.List.{repeat}

-- one copy more, at the end
pub repeat_more : (n : ℕ) (xs : List ℕ) → repeat n xs ++ xs ≡ repeat (n + 1) xs
repeat_more zero xs = sym (append-nil xs)
repeat_more (suc n) xs =
    let next : suc n + 1 ≡ suc (n + 1) = omega arith in
    append_assoc xs (repeat n xs) xs ∙ ap (λ ys. xs ++ ys) (repeat_more n xs) ∙ sym (ap (λ k. repeat k xs) next)

-- copies of the empty text
pub repeat_none : (n : ℕ) → repeat {A = ℕ} n [] ≡ []
repeat_none zero = refl
repeat_none (suc n) = repeat_none n

pub length-repeat : (n : ℕ) (xs : List ℕ) → length (repeat n xs) ≡ n * length xs
length-repeat zero xs = omega arith
length-repeat (suc n) xs = omega (arith, length-append xs (repeat n xs), length-repeat n xs)

-- the front of copies: whole ones and a part
pub front_of_copies : (q r m : ℕ) (xs : List ℕ) → 0 < length xs → r ≤ length xs → q * length xs + r ≤ m * length xs
    → take (q * length xs + r) (repeat m xs) ≡ repeat q xs ++ take r xs
front_of_copies zero r zero xs filled fits within =
    let all : zero * length xs + r ≡ 0 = omega arith in
    let part : r ≡ 0 = omega arith in
    ap (λ k. take k []) all ∙ sym (ap (λ k. take k xs) part)
front_of_copies zero r (suc m) xs filled fits within =
    let all : zero * length xs + r ≡ r = omega arith in
    ap (λ k. take k (xs ++ repeat m xs)) all ∙ take-append-le r xs (repeat m xs) fits
front_of_copies (suc q) r zero xs filled fits within = absurd (omega arith)
front_of_copies (suc q) r (suc m) xs filled fits within =
    let l : ℕ = length xs in
    let k : ℕ = q * length xs + r in
    let rest : List ℕ = repeat m xs in
    let all : suc q * length xs + r ≡ length xs + (q * length xs + r) = omega arith in
    let less : q * length xs + r ≤ m * length xs = omega arith in
    ap (λ n. take n (xs ++ rest)) all
    ∙ take-add l k (xs ++ rest)
    ∙ ap (λ ys. ys ++ take k (drop l (xs ++ rest))) (take_at xs rest l refl)
    ∙ ap (λ ys. xs ++ take k ys) (drop_at xs rest l refl)
    ∙ ap (λ ys. xs ++ ys) (front_of_copies q r m xs filled fits less)
    ∙ sym (append_assoc xs (repeat q xs) (take r xs))

-- n copies of a text that isn't empty have n units or more
pub copies_suffice : (n : ℕ) (xs : List ℕ) → 0 < length xs → n ≤ length (repeat n xs)
copies_suffice zero xs filled = omega arith
copies_suffice (suc n) xs filled = omega (arith, length-append xs (repeat n xs), copies_suffice n xs filled)

pub copies_of_none : (n : ℕ) (xs : List ℕ) → length xs ≡ 0 → repeat n xs ≡ []
copies_of_none n xs none = ap (repeat n) (nil_from_length xs none) ∙ repeat_none n

-- whole copies and a part of one are the units that fill
pub whole_and_part : (n : ℕ) (xs : List ℕ) → 0 < length xs → repeat (n / length xs) xs ++ take (n % length xs) xs ≡ take n (repeat n xs)
whole_and_part n xs filled =
    let l : ℕ = length xs in
    let sum : n / length xs * length xs + n % length xs ≡ n = omega arith in
    let part : n % length xs ≤ length xs = omega arith in
    let enough : n * 1 ≤ n * length xs = mul-le-mul_left n filled in
    let within : n / length xs * length xs + n % length xs ≤ n * length xs = omega arith in
    sym (front_of_copies (n / length xs) (n % length xs) n xs filled part within) ∙ ap (λ k. take k (repeat n xs)) sum
