-- What a call comes to over a shelf that tells its files.
use Rattle.std.proofs.Common.{◌≡◌, ◌⊎◌, inl, inr, ℕ, ◌+◌, ◌≤◌, ◌<◌, List, [], ◌∷◌, ◌++◌, length, take, Option, Some, refl, sym, ap, subst, ◌∙◌, arith, length-append, length-take}
use Rattle.std.proofs.lemmas.List.{take_all}
use Rattle.actx_outside.specs.Files.{ShelfState, IsFetched, IsFront}
use Rattle.actx_cli.specs.declared.answer.Answer.{Answer}
use Rattle.actx_cli.specs.declared.answer.Answer.TheVariants.{Finished, Usage, CannotRead, TooLong, Refused, WriteFault, Memory}
use Rattle.actx_cli.specs.Words.{Run, Feed, Given, Names, IsCommand, run_word}
use Rattle.actx_cli.specs.Answers.{status_of, line_of}
use Rattle.actx_cli.specs.Accepted.{longest, IsAccepted, IsRefused}
use Rattle.actx_cli.specs.declared.answer.Refusal.{Refusal}
use Rattle.actx_cli.proofs.Refusals.{one_refusal, not_both, one_text}
use Rattle.actx_cli.specs.Calls.{Change, Call}
use Rattle.actx_cli.specs.Runs.{IsHanded, Comes, Prints, Ran}
use Rattle.actx_cli.specs.Statuses.{Gained, SaysRefused, Faulted, IsTold, RefusedAlways, TooLongAlways, Completes}

-- the command line names one file
spelled : (words : List (List ℕ)) (steps : ℕ) (feed : Feed) (file : List ℕ) → IsCommand words (Run steps feed file) → words ≡ run_word ∷ file ∷ []
spelled words steps Given file h = h.1

one_file : (words : List (List ℕ)) (a b : List ℕ) → Names words a → Names words b → a ≡ b
one_file words a b h k = cc (spelled words h.0 h.1 a h.2, spelled words k.0 k.1 b k.2)

-- what was handed over is the front of what the shelf tells
handed : (words : List (List ℕ)) (shelf : Change ShelfState) (contents bytes : List ℕ) → IsTold words shelf contents → IsHanded words shelf bytes → bytes ≡ take (longest + 1) contents
handed words shelf contents bytes t h =
    let same : h.file ≡ t.file = one_file words h.file t.file h.named t.named in
    let a : IsFetched shelf.old.files t.file longest bytes = subst (λ (f : List ℕ). IsFetched shelf.old.files f longest bytes) same h.fetched in
    let b : IsFetched (Some t.files) t.file longest bytes = subst (λ (o : Option (List (List ℕ × List ℕ))). IsFetched o t.file longest bytes) t.told a in
    subst (λ (o : Option (List ℕ)). IsFront o longest bytes) t.held b

-- a short file is handed over whole
handed_whole : (words : List (List ℕ)) (shelf : Change ShelfState) (contents bytes : List ℕ) → IsTold words shelf contents → IsHanded words shelf bytes → length contents ≤ longest → bytes ≡ contents
handed_whole words shelf contents bytes t h short =
    let le : length contents ≤ longest + 1 = omega (arith, short) in
    handed words shelf contents bytes t h ∙ take_all (longest + 1) contents le

-- of a long one more than the longest
handed_long : (words : List (List ℕ)) (shelf : Change ShelfState) (contents bytes : List ℕ) → IsTold words shelf contents → IsHanded words shelf bytes → longest < length contents → longest < length bytes
handed_long words shelf contents bytes t h long = omega (arith, ap length (handed words shelf contents bytes t h), length-take (longest + 1) contents, long)

grows : (xs : List (List ℕ)) (x : List ℕ) → xs ≡ xs ++ x ∷ [] → ⊥
grows xs x e = omega (arith, ap length e, length-append xs (x ∷ []))

none_failed : (words : List (List ℕ)) (shelf : Change ShelfState) (contents file : List ℕ) → IsTold words shelf contents → shelf.new.failed ≡ shelf.old.failed ++ file ∷ [] → ⊥
none_failed words shelf contents file t h = grows shelf.old.failed file (sym t.failed ∙ h)

-- a file that is refused is refused so, or memory ran out
refuses : (answer : Answer) (call : Call) (text contents : List ℕ) (kind : Refusal) (at : ℕ) → IsTold call.words call.shelf contents → length contents ≤ longest → IsRefused contents kind at
    → Comes call.words call.shelf answer text → Prints answer text call.out → Gained call.err (line_of answer) → ((status_of answer ≡ 65) × SaysRefused call contents kind at) ⊎ (status_of answer ≡ 75)
refuses (Refused own place) call text contents kind at t short r h p s =
    let mine : IsRefused contents own place = subst (λ (b : List ℕ). IsRefused b own place) (handed_whole call.words call.shelf contents h.0 t h.1 short) h.3 in
    inl (refl, record { own = own; place = place; refused = mine; agrees = one_refusal contents own kind place at mine r; said = (subst (Gained call.out) h.4 p, s) })
refuses (Memory steps) call text contents kind at t short r h p s = inr refl
refuses Usage call text contents kind at t short r h p s = absurd (h.0 (Run t.named.0 t.named.1 t.file) t.named.2)
refuses CannotRead call text contents kind at t short r h p s = absurd (none_failed call.words call.shelf contents h.0 t h.2)
refuses TooLong call text contents kind at t short r h p s = absurd (omega (arith, ap length (handed_whole call.words call.shelf contents h.0 t h.1 short), h.2, short))
refuses Finished call text contents kind at t short r h p s = absurd (not_both contents text kind at (subst (λ (b : List ℕ). IsAccepted b text) (handed_whole call.words call.shelf contents h.0 t h.1 short) h.2) r)
refuses WriteFault call text contents kind at t short r h p s = absurd (not_both contents text kind at (subst (λ (b : List ℕ). IsAccepted b text) (handed_whole call.words call.shelf contents h.0 t h.1 short) h.2) r)

pub refused_always : (call : Call) → Ran call → RefusedAlways call
refused_always call r contents kind at t short refused = elim r.reports [
  | inl p ↦ elim (refuses r.answer call r.text contents kind at t short refused r.comes r.prints p.1) [
    | inl q ↦ inl (p.0 ∙ q.0, q.1)
    | inr q ↦ inr (inl (p.0 ∙ q))
  ]
  | inr p ↦ inr (inr p.2)
]

-- a long file is refused as such, or memory ran out
refuses_length : (answer : Answer) (words : List (List ℕ)) (shelf : Change ShelfState) (text contents : List ℕ) → IsTold words shelf contents → longest < length contents → Comes words shelf answer text → (status_of answer ≡ 66) ⊎ (status_of answer ≡ 75)
refuses_length TooLong words shelf text contents t long h = inl refl
refuses_length CannotRead words shelf text contents t long h = inl refl
refuses_length (Memory steps) words shelf text contents t long h = inr refl
refuses_length Usage words shelf text contents t long h = absurd (h.0 (Run t.named.0 t.named.1 t.file) t.named.2)
refuses_length (Refused kind at) words shelf text contents t long h = absurd (omega (arith, handed_long words shelf contents h.0 t h.1 long, h.2))
refuses_length Finished words shelf text contents t long h = absurd (omega (arith, handed_long words shelf contents h.0 t h.1 long, h.2.short))
refuses_length WriteFault words shelf text contents t long h = absurd (omega (arith, handed_long words shelf contents h.0 t h.1 long, h.2.short))

pub too_long_always : (call : Call) → Ran call → TooLongAlways call
too_long_always call r contents t long = elim r.reports [
  | inl p ↦ elim (refuses_length r.answer call.words call.shelf r.text contents t long r.comes) [
    | inl q ↦ inl (p.0 ∙ q)
    | inr q ↦ inr (inl (p.0 ∙ q))
  ]
  | inr p ↦ inr (inr p.2)
]

-- the text of an accepted file is printed, or memory ran out
prints_text : (answer : Answer) (call : Call) (own contents text : List ℕ) → IsTold call.words call.shelf contents → IsAccepted contents text → (Faulted call.out → ⊥) → Comes call.words call.shelf answer own → Prints answer own call.out
    → ((status_of answer ≡ 0) × Gained call.out text) ⊎ ((status_of answer ≡ 75) × Gained call.out [])
prints_text Usage call own contents text t a fine h p = absurd (h.0 (Run t.named.0 t.named.1 t.file) t.named.2)
prints_text CannotRead call own contents text t a fine h p = absurd (none_failed call.words call.shelf contents h.0 t h.2)
prints_text TooLong call own contents text t a fine h p = absurd (omega (arith, ap length (handed_whole call.words call.shelf contents h.0 t h.1 a.short), h.2, a.short))
prints_text (Refused kind at) call own contents text t a fine h p = absurd (not_both contents text kind at a (subst (λ (b : List ℕ). IsRefused b kind at) (handed_whole call.words call.shelf contents h.0 t h.1 a.short) h.3))
prints_text WriteFault call own contents text t a fine h p = absurd (fine p.1)
prints_text (Memory steps) call own contents text t a fine h p = inr (refl, subst (Gained call.out) h.4 p)
prints_text Finished call own contents text t a fine h p =
    let mine : IsAccepted contents own = subst (λ (b : List ℕ). IsAccepted b own) (handed_whole call.words call.shelf contents h.0 t h.1 a.short) h.2 in
    inl (refl, subst (Gained call.out) (one_text contents own text mine a) p)

pub completes : (call : Call) → Ran call → Completes call
completes call r contents text t a out_fine err_fine = elim r.reports [
  | inl p ↦ elim (prints_text r.answer call r.text contents text t a out_fine r.comes r.prints) [
    | inl q ↦ inl (p.0 ∙ q.0, q.1)
    | inr q ↦ inr (p.0 ∙ q.0, q.1)
  ]
  | inr p ↦ absurd (err_fine p.2)
]
