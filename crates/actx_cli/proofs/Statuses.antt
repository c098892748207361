-- When each status comes, from the record of a call.
use Rattle.std.proofs.Common.{◌≡◌, ◌⊎◌, inl, inr, ℕ, List, refl, sym, ap, subst, ◌∙◌, arith}
use Rattle.actx_outside.specs.Files.{ShelfState}
use Rattle.actx_outside.specs.Streams.{SinkState}
use Rattle.actx_cli.specs.declared.answer.Answer.{Answer}
use Rattle.actx_cli.specs.declared.answer.Answer.TheVariants.{Finished, Usage, CannotRead, TooLong, Refused, WriteFault, Memory}
use Rattle.actx_cli.specs.Words.{Run, Names, IsNoCommand}
use Rattle.actx_cli.specs.Answers.{status_of, line_of}
use Rattle.actx_cli.specs.Calls.{Change, Call}
use Rattle.actx_cli.specs.Runs.{Comes, Prints, Reports, Ran}
use Rattle.actx_cli.specs.Statuses.{Gained, Faulted, FinishedOnly, UsageOnly, UsageAlways, RefusedOnly, NoFileOnly, WriteFaultOnly, MemoryOnly, OneOfSix}

no_name : {words : List (List ℕ)} {file : List ℕ} → IsNoCommand words → Names words file → ⊥
no_name {file = file} none named = none (Run named.0 named.1 file) named.2

-- A status other than 74 is that of the answer, and its line was written.
said : (answer : Answer) (err : Change SinkState) (status : ℕ) → Reports answer err status → (status ≡ 74 → ⊥) → (status ≡ status_of answer) × Gained err (line_of answer)
said answer err status r other = elim r [
  | inl p ↦ p
  | inr p ↦ absurd (other p.0)
]

finished_is : (call : Call) (answer : Answer) (text : List ℕ) → Comes call.words call.shelf answer text → Prints answer text call.out → Gained call.err (line_of answer) → status_of answer ≡ 0 → call.status ≡ 0 → FinishedOnly call
finished_is call Finished text h p s e z = λ _. (h.0, text, h.1, h.2, p, s)
finished_is call Usage text h p s e z = absurd (omega (arith, e))
finished_is call CannotRead text h p s e z = absurd (omega (arith, e))
finished_is call TooLong text h p s e z = absurd (omega (arith, e))
finished_is call (Refused kind at) text h p s e z = absurd (omega (arith, e))
finished_is call WriteFault text h p s e z = absurd (omega (arith, e))
finished_is call (Memory steps) text h p s e z = absurd (omega (arith, e))

pub finished_only : (call : Call) → Ran call → FinishedOnly call
finished_only call r z =
    let s = said r.answer call.err call.status r.reports (λ e. omega (arith, e, z)) in
    finished_is call r.answer r.text r.comes r.prints s.1 (sym s.0 ∙ z) z z

usage_is : (call : Call) (answer : Answer) (text : List ℕ) → Comes call.words call.shelf answer text → Prints answer text call.out → Gained call.err (line_of answer) → status_of answer ≡ 64 → UsageOnly call
usage_is call Usage text h p s e = λ _. (h.0, h.1, (subst (Gained call.out) h.2 p, s))
usage_is call Finished text h p s e = absurd (omega (arith, e))
usage_is call CannotRead text h p s e = absurd (omega (arith, e))
usage_is call TooLong text h p s e = absurd (omega (arith, e))
usage_is call (Refused kind at) text h p s e = absurd (omega (arith, e))
usage_is call WriteFault text h p s e = absurd (omega (arith, e))
usage_is call (Memory steps) text h p s e = absurd (omega (arith, e))

pub usage_only : (call : Call) → Ran call → UsageOnly call
usage_only call r z =
    let s = said r.answer call.err call.status r.reports (λ e. omega (arith, e, z)) in
    usage_is call r.answer r.text r.comes r.prints s.1 (sym s.0 ∙ z) z

refused_is : (call : Call) (answer : Answer) (text : List ℕ) → Comes call.words call.shelf answer text → Prints answer text call.out → Gained call.err (line_of answer) → status_of answer ≡ 65 → RefusedOnly call
refused_is call (Refused kind at) text h p s e = λ _. (h.0, kind, at, h.1, h.2, h.3, (subst (Gained call.out) h.4 p, s))
refused_is call Usage text h p s e = absurd (omega (arith, e))
refused_is call Finished text h p s e = absurd (omega (arith, e))
refused_is call CannotRead text h p s e = absurd (omega (arith, e))
refused_is call TooLong text h p s e = absurd (omega (arith, e))
refused_is call WriteFault text h p s e = absurd (omega (arith, e))
refused_is call (Memory steps) text h p s e = absurd (omega (arith, e))

pub refused_only : (call : Call) → Ran call → RefusedOnly call
refused_only call r z =
    let s = said r.answer call.err call.status r.reports (λ e. omega (arith, e, z)) in
    refused_is call r.answer r.text r.comes r.prints s.1 (sym s.0 ∙ z) z

no_file_is : (call : Call) (answer : Answer) (text : List ℕ) → Comes call.words call.shelf answer text → Prints answer text call.out → Gained call.err (line_of answer) → status_of answer ≡ 66 → NoFileOnly call
no_file_is call CannotRead text h p s e = λ _. inl (h.0, h.1, h.2, (subst (Gained call.out) h.3 p, s))
no_file_is call TooLong text h p s e = λ _. inr (h.0, h.1, h.2, (subst (Gained call.out) h.3 p, s))
no_file_is call (Refused kind at) text h p s e = absurd (omega (arith, e))
no_file_is call Usage text h p s e = absurd (omega (arith, e))
no_file_is call Finished text h p s e = absurd (omega (arith, e))
no_file_is call WriteFault text h p s e = absurd (omega (arith, e))
no_file_is call (Memory steps) text h p s e = absurd (omega (arith, e))

pub no_file_only : (call : Call) → Ran call → NoFileOnly call
no_file_only call r z =
    let s = said r.answer call.err call.status r.reports (λ e. omega (arith, e, z)) in
    no_file_is call r.answer r.text r.comes r.prints s.1 (sym s.0 ∙ z) z

memory_is : (call : Call) (answer : Answer) (text : List ℕ) → Comes call.words call.shelf answer text → Prints answer text call.out → Gained call.err (line_of answer) → status_of answer ≡ 75 → MemoryOnly call
memory_is call (Memory steps) text h p s e = λ _. (h.2, (subst (Gained call.out) h.4 p, subst (λ (n : ℕ). Gained call.err (line_of (Memory n))) h.3 s))
memory_is call CannotRead text h p s e = absurd (omega (arith, e))
memory_is call TooLong text h p s e = absurd (omega (arith, e))
memory_is call (Refused kind at) text h p s e = absurd (omega (arith, e))
memory_is call Usage text h p s e = absurd (omega (arith, e))
memory_is call Finished text h p s e = absurd (omega (arith, e))
memory_is call WriteFault text h p s e = absurd (omega (arith, e))

pub memory_only : (call : Call) → Ran call → MemoryOnly call
memory_only call r z =
    let s = said r.answer call.err call.status r.reports (λ e. omega (arith, e, z)) in
    memory_is call r.answer r.text r.comes r.prints s.1 (sym s.0 ∙ z) z

fault_is : (call : Call) (answer : Answer) (text : List ℕ) → Prints answer text call.out → status_of answer ≡ 74 → Faulted call.out
fault_is call WriteFault text p e = p.1
fault_is call CannotRead text p e = absurd (omega (arith, e))
fault_is call TooLong text p e = absurd (omega (arith, e))
fault_is call (Refused kind at) text p e = absurd (omega (arith, e))
fault_is call Usage text p e = absurd (omega (arith, e))
fault_is call Finished text p e = absurd (omega (arith, e))
fault_is call (Memory steps) text p e = absurd (omega (arith, e))

pub write_fault_only : (call : Call) → Ran call → WriteFaultOnly call
write_fault_only call r z = elim r.reports [
  | inl p ↦ inl (fault_is call r.answer r.text r.prints (sym p.0 ∙ z))
  | inr p ↦ inr p.2
]

status_is : (answer : Answer) (n : ℕ) → n ≡ status_of answer → (n ≡ 0) ⊎ (n ≡ 64) ⊎ (n ≡ 65) ⊎ (n ≡ 66) ⊎ (n ≡ 74) ⊎ (n ≡ 75)
status_is Finished n e = inl e
status_is Usage n e = inr (inl e)
status_is (Refused kind at) n e = inr (inr (inl e))
status_is CannotRead n e = inr (inr (inr (inl e)))
status_is TooLong n e = inr (inr (inr (inl e)))
status_is WriteFault n e = inr (inr (inr (inr (inl e))))
status_is (Memory steps) n e = inr (inr (inr (inr (inr e))))

pub one_of_six : (call : Call) → Ran call → OneOfSix call
one_of_six call r = elim r.reports [
  | inl p ↦ status_is r.answer call.status p.0
  | inr p ↦ status_is WriteFault call.status p.0
]

usage_due : (answer : Answer) (words : List (List ℕ)) (shelf : Change ShelfState) (text : List ℕ) → Comes words shelf answer text → IsNoCommand words → answer ≡ Usage
usage_due Usage words shelf text h n = refl
usage_due Finished words shelf text h n = absurd (no_name n h.1.named)
usage_due CannotRead words shelf text h n = absurd (no_name n h.1)
usage_due TooLong words shelf text h n = absurd (no_name n h.1.named)
usage_due (Refused kind at) words shelf text h n = absurd (no_name n h.1.named)
usage_due WriteFault words shelf text h n = absurd (no_name n h.1.named)
usage_due (Memory steps) words shelf text h n = absurd (no_name n h.1)

pub usage_always : (call : Call) → Ran call → UsageAlways call
usage_always call r n = elim r.reports [
  | inl p ↦ inl (p.0 ∙ ap status_of (usage_due r.answer call.words call.shelf r.text r.comes n))
  | inr p ↦ inr p.2
]
