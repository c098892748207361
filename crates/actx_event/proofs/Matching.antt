-- Two lists of the same open brackets stay so under every event.
use Rattle.std.proofs.Common.{◌≡◌, Bool, true, false, List, [], ◌∷◌, Option, Some, None, if◌then◌else◌, refl, ap₂, subst}
use Rattle.std.specs.Prelude.{unwrap_or, is_some}
use Rattle.std.specs.Option.{option_or}
use Rattle.actx_event.specs.declared.event.Event.{Event}
use Rattle.actx_event.specs.declared.bracket.Bracket.{Bracket}
use Rattle.actx_event.specs.declared.bracket.Open.{Open}
use Rattle.actx_event.specs.Event.{opened_bracket, closed_bracket}
use Rattle.actx_event.specs.Brackets.{same_bracket, before_opener, with_closed, with_opened, brackets_after, has_opener}
use Rattle.actx_event.specs.Execution.{running, innermost}
use Rattle.actx_event.specs.Agreement.{BothOrNeither, SameBrackets}

module _ {P Q : Type 0} (R : P → Q → Type 0) where
  pub both_or : (a a' : Option P) (b b' : Option Q) → BothOrNeither R a b → BothOrNeither R a' b' → BothOrNeither R (option_or a a') (option_or b b')
  both_or None a' None b' h k = k
  both_or (Some p) a' (Some q) b' h k = h
  both_or None a' (Some q) b' h k = absurd h
  both_or (Some p) a' None b' h k = absurd h

  pub both_or_none : (a : Option P) (b : Option Q) → BothOrNeither R a b → BothOrNeither R a (option_or b None)
  both_or_none None None h = h
  both_or_none (Some p) (Some q) h = h
  both_or_none None (Some q) h = absurd h
  both_or_none (Some p) None h = absurd h

  pub both_if : (t : Bool) (p : P) (q : Q) → R p q → BothOrNeither R (if t then Some p else None) (if t then Some q else None)
  both_if true p q h = h
  both_if false p q h = tt

  pub both_unwrap : (a : Option P) (b : Option Q) (p : P) (q : Q) → BothOrNeither R a b → R p q → R (unwrap_or a p) (unwrap_or b q)
  both_unwrap None None p q h k = k
  both_unwrap (Some p') (Some q') p q h k = h
  both_unwrap None (Some q') p q h k = absurd h
  both_unwrap (Some p') None p q h k = absurd h

  pub same_closed : (b : Option Bracket) (os : List (Open P)) (qs : List (Open Q)) → SameBrackets R os qs → SameBrackets R (with_closed b os) (with_closed b qs)
  same_closed None os qs h = h
  same_closed (Some b) [] [] h = h
  same_closed (Some b) (o ∷ os) (q ∷ qs) h =
      subst (λ x. SameBrackets R (if same_bracket b o.bracket then os else (o ∷ os)) (if same_bracket b x then qs else (q ∷ qs))) h.0 (go (same_bracket b o.bracket))
    where
      go : (t : Bool) → SameBrackets R (if t then os else (o ∷ os)) (if t then qs else (q ∷ qs))
      go true = h.2
      go false = h
  same_closed (Some b) [] (q ∷ qs) h = absurd h
  same_closed (Some b) (o ∷ os) [] h = absurd h

  pub same_opened : (b : Option Bracket) (p : P) (q : Q) (os : List (Open P)) (qs : List (Open Q)) → R p q → SameBrackets R os qs → SameBrackets R (with_opened b p os) (with_opened b q qs)
  same_opened None p q os qs r h = h
  same_opened (Some b) p q os qs r h = (refl, r, h)

  pub same_after : (e : Event) (p : P) (q : Q) (os : List (Open P)) (qs : List (Open Q)) → R p q → SameBrackets R os qs → SameBrackets R (brackets_after e p os) (brackets_after e q qs)
  same_after e p q os qs r h =
      same_opened (opened_bracket e) p q (with_closed (closed_bracket e) os) (with_closed (closed_bracket e) qs) r (same_closed (closed_bracket e) os qs h)

  pub same_opener : (b : Option Bracket) (os : List (Open P)) (qs : List (Open Q)) → SameBrackets R os qs → BothOrNeither R (before_opener b os) (before_opener b qs)
  same_opener None os qs h = tt
  same_opener (Some b) [] [] h = tt
  same_opener (Some b) (o ∷ os) (q ∷ qs) h =
      subst (λ x. BothOrNeither R (if same_bracket b o.bracket then Some o.before else None) (if same_bracket b x then Some q.before else None)) h.0 (both_if (same_bracket b o.bracket) o.before q.before h.1)
  same_opener (Some b) [] (q ∷ qs) h = absurd h
  same_opener (Some b) (o ∷ os) [] h = absurd h

  pub same_innermost : (os : List (Open P)) (qs : List (Open Q)) → SameBrackets R os qs → innermost os ≡ innermost qs
  same_innermost [] [] h = refl
  same_innermost (o ∷ os) (q ∷ qs) h = ap₂ (λ b i. unwrap_or (running b) i) h.0 (same_innermost os qs h.2)
  same_innermost [] (q ∷ qs) h = absurd h
  same_innermost (o ∷ os) [] h = absurd h

  pub both_is_some : (a : Option P) (b : Option Q) → BothOrNeither R a b → is_some a ≡ is_some b
  both_is_some None None h = refl
  both_is_some (Some p) (Some q) h = refl
  both_is_some None (Some q) h = absurd h
  both_is_some (Some p) None h = absurd h

  pub same_has_opener : (b : Option Bracket) (os : List (Open P)) (qs : List (Open Q)) → SameBrackets R os qs → has_opener b os ≡ has_opener b qs
  same_has_opener None os qs h = refl
  same_has_opener (Some b) os qs h = both_is_some (before_opener (Some b) os) (before_opener (Some b) qs) (same_opener (Some b) os qs h)

module _ {P Q : Type 0} (R S : P → Q → Type 0) (weaker : (p : P) (q : Q) → R p q → S p q) where
  pub same_weaken : (os : List (Open P)) (qs : List (Open Q)) → SameBrackets R os qs → SameBrackets S os qs
  same_weaken [] [] h = tt
  same_weaken (o ∷ os) (q ∷ qs) h = (h.0, weaker o.before q.before h.1, same_weaken os qs h.2)
  same_weaken [] (q ∷ qs) h = absurd h
  same_weaken (o ∷ os) [] h = absurd h

  pub both_weaken : (a : Option P) (b : Option Q) → BothOrNeither R a b → BothOrNeither S a b
  both_weaken None None h = tt
  both_weaken (Some p) (Some q) h = weaker p q h
  both_weaken None (Some q) h = absurd h
  both_weaken (Some p) None h = absurd h
