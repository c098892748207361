-- What a sink gains by one write after another.
use Rattle.std.proofs.Common.{take-add, length-drop, length-append, get_or, zero, suc, ◌<◌, ◌-◌, ◌≡◌, ℕ, ◌+◌, ◌≤◌, List, [], ◌∷◌, ◌++◌, length, take, drop, Option, None, Some, Result, Ok, Err, refl, sym, ap, subst, ◌∙◌, append_assoc, arith}
use Rattle.std.proofs.lemmas.List.{append-nil, take_all, take-append-le}
use Rattle.std.proofs.Math.Seq.{take-append-add}
use Rattle.std.specs.List.{flat_map}
use Rattle.std.specs.declared.vec.Vec.{Vec}
use Rattle.std.specs.declared.alloc.Global.{Global}
use Rattle.actx_outside.specs.Streams.{SinkState}
use Rattle.actx_cli.specs.Sinks.{AppendsFront, Puts}
use Rattle.std.specs.Io.KnownBytes.{Appends, Keeps}

pub appends_more : (a b c : Option (List ℕ)) (xs ys : List ℕ) → Appends a b xs → Appends b c ys → Appends a c (xs ++ ys)
appends_more None b c xs ys h k = tt
appends_more (Some a) None c xs ys h k = absurd h
appends_more (Some a) (Some b) None xs ys h k = absurd k
appends_more (Some a) (Some b) (Some c) xs ys h k = k ∙ (ap (λ (zs : List ℕ). zs ++ ys) h ∙ append_assoc a xs ys)

pub appends_kept : (a b c : Option (List ℕ)) (xs : List ℕ) → Appends a b xs → Keeps b c → Appends a c xs
appends_kept None b c xs h k = tt
appends_kept (Some a) None c xs h k = absurd h
appends_kept (Some a) (Some b) None xs h k = absurd k
appends_kept (Some a) (Some b) (Some c) xs h k = k ∙ h

pub appends_none : (a : Option (List ℕ)) → Appends a a []
appends_none None = tt
appends_none (Some a) = sym (append-nil a)

-- one write more
pub put_step : (a b c : Option (List ℕ)) (bytes : List ℕ) (w n : ℕ) → w ≤ length bytes → Appends a b (take w bytes) → Appends b c (take n (take (length bytes - w) (drop w bytes))) → Appends a c (take (w + n) bytes)
put_step a b c bytes w n within h k =
    let e : take (length bytes - w) (drop w bytes) ≡ drop w bytes = take_all _ _ (omega (arith, length-drop w bytes)) in
    subst (λ (xs : List ℕ). Appends a c xs) (ap (λ (xs : List ℕ). take w bytes ++ take n xs) e ∙ sym (take-add w n bytes)) (appends_more a b c (take w bytes) _ h k)

-- the pieces before one, that one, and the ones after it
pub flat_at : (pieces : List (Vec ℕ Global)) (i : ℕ) (d : Vec ℕ Global) → i < length pieces
    → flat_map (λ piece. piece.items) pieces ≡ flat_map (λ piece. piece.items) (take i pieces) ++ ((get_or pieces i d).items ++ flat_map (λ piece. piece.items) (drop (suc i) pieces))
flat_at [] i d h = absurd (omega arith)
flat_at (p ∷ ps) zero d h = refl
flat_at (p ∷ ps) (suc i) d h = ap (λ (xs : List ℕ). p.items ++ xs) (flat_at ps i d (omega arith)) ∙ sym (append_assoc p.items _ _)

-- a piece of which a front was written
pub front_of_all : (a b c : Option (List ℕ)) (pieces : List (Vec ℕ Global)) (i : ℕ) (piece : Vec ℕ Global) → i < length pieces → piece ≡ get_or pieces i piece
    → Appends a b (flat_map (λ piece. piece.items) (take i pieces)) → AppendsFront b c piece.items → AppendsFront a c (flat_map (λ piece. piece.items) pieces)
front_of_all a b c pieces i piece lt is h k =
    let front = flat_map (λ (piece : Vec ℕ Global). piece.items) (take i pieces) in
    let rest = flat_map (λ (piece : Vec ℕ Global). piece.items) (drop (suc i) pieces) in
    let whole : flat_map (λ piece. piece.items) pieces ≡ front ++ (piece.items ++ rest) = flat_at pieces i piece lt ∙ ap (λ (p : Vec ℕ Global). front ++ (p.items ++ rest)) (sym is) in
    let n = k.0 in
    let taken : take (length front + n) (flat_map (λ piece. piece.items) pieces) ≡ front ++ take n piece.items =
    ap (take (length front + n)) whole ∙ (take-append-add front (piece.items ++ rest) n ∙ ap (λ (xs : List ℕ). front ++ xs) (take-append-le n piece.items rest k.1)) in
    (length front + n, omega (arith, ap length whole, length-append front (piece.items ++ rest), length-append piece.items rest, k.1), subst (Appends a c) (sym taken) (appends_more a b c front (take n piece.items) h k.2))

-- a front of some bytes is one of more
front_longer : (a b : Option (List ℕ)) (xs ys : List ℕ) → AppendsFront a b xs → AppendsFront a b (xs ++ ys)
front_longer a b xs ys h = (h.0, omega (arith, h.1, length-append xs ys), subst (Appends a b) (sym (take-append-le h.0 xs ys h.1)) h.2)

front_after : (a b c : Option (List ℕ)) (xs ys : List ℕ) → Appends a b xs → AppendsFront b c ys → AppendsFront a c (xs ++ ys)
front_after a b c xs ys h k = (length xs + k.0, omega (arith, k.1, length-append xs ys), subst (Appends a c) (sym (take-append-add xs ys k.0)) (appends_more a b c xs (take k.0 ys) h k.2))

pub puts_stop : {T E : Type 0} (a b : SinkState) (xs ys : List ℕ) (e : E) → Puts {T = T} a b xs (Err e) → Puts {T = T} a b (xs ++ ys) (Err e)
puts_stop a b xs ys e h = record { all = tt; front = front_longer a.bytes b.bytes xs ys h.front; fault = h.fault; later = h.later }

pub puts_then : {T U E : Type 0} (a b c : SinkState) (xs ys : List ℕ) (t : T) (r : Result U E) → Puts {E = E} a b xs (Ok t) → Puts b c ys r → Puts a c (xs ++ ys) r
puts_then a b c xs ys t (Ok u) h k = record { all = appends_more a.bytes b.bytes c.bytes xs ys h.all k.all; front = tt; fault = tt; later = omega (arith, h.later, k.later) }
puts_then a b c xs ys t (Err e) h k = record { all = tt; front = front_after a.bytes b.bytes c.bytes xs ys h.all k.front; fault = omega (arith, h.later, k.fault); later = omega (arith, h.later, k.later) }
