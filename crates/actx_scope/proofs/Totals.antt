-- What was found after nodes: the first of their errors, and all uses of names.
use Rattle.std.proofs.Common.{◌≡◌, ℕ, ◌+◌, List, [], ◌∷◌, ◌++◌, refl, sym, ap, ◌∙◌, append_assoc, Option, Some, None}
use Rattle.std.specs.Prelude.{slice_get}
use Rattle.std.proofs.lemmas.List.{append-nil}
use Rattle.actx_scope_rules.specs.declared.early.Early.{Early}
use Rattle.actx_scope_rules.specs.declared.early.EarlyKind.{EarlyKind}
use Rattle.actx_scope.specs.declared.findings.Findings.{Findings}
use Rattle.actx_scope_rules.specs.Conditions.{first}
use Rattle.actx_scope_rules.specs.Early.{Node, errors_at, errors_from, uses_at, uses_from}
use Rattle.actx_scope.specs.Walks.{after, with_node, early_at, or_first, nothing}

abbrev pub head : List Early → Option Early
head [] = None
head (x ∷ xs) = Some x

or_first-assoc : (a b c : Option Early) → or_first (or_first a b) c ≡ or_first a (or_first b c)
or_first-assoc None b c = refl
or_first-assoc (Some x) b c = refl

at_node : (i : ℕ) (ks : List EarlyKind) (es : List Early) → or_first (early_at i (first ks)) (head es) ≡ head (errors_at i ks ++ es)
at_node i [] es = refl
at_node i (k ∷ ks) es = refl

or_none : (a : Option Early) → a ≡ or_first a None
or_none None = refl
or_none (Some x) = refl

pub first_after : (o : Findings) (ns : List Node) → (after o ns).first ≡ or_first o.first (head (errors_from o.count ns))
unfolding after errors_from
first_after o [] = or_none o.first
first_after o (n ∷ ns) = first_after (with_node o n) ns
    ∙ (or_first-assoc o.first (early_at o.count (first n.errors)) (head (errors_from (o.count + 1) ns)) ∙ ap (λ z. or_first o.first z) (at_node o.count n.errors (errors_from (o.count + 1) ns)))

pub uses_after : (o : Findings) (ns : List Node) → (after o ns).uses ≡ o.uses ++ uses_from o.count ns
unfolding after uses_from
uses_after o [] = sym (append-nil o.uses)
uses_after o (n ∷ ns) = uses_after (with_node o n) ns ∙ append_assoc o.uses (uses_at o.count n.uses) (uses_from (o.count + 1) ns)

pub head-get : (xs : List Early) → head xs ≡ slice_get xs 0
head-get [] = refl
head-get (x ∷ xs) = refl

pub head-none : (xs : List Early) → None ≡ head xs → xs ≡ []
head-none [] e = refl
head-none (x ∷ xs) e = (cc)

-- ---- of a whole file

pub refused : (o : Findings) (ns : List Node) (e : Early) → o ≡ after nothing ns → o.first ≡ Some e → slice_get (errors_from 0 ns) 0 ≡ Some e
refused o ns e h k = sym (head-get (errors_from 0 ns)) ∙ (sym (first_after nothing ns) ∙ (ap (λ z. z.first) (sym h) ∙ k))

pub accepted : (o : Findings) (ns : List Node) → o ≡ after nothing ns → o.first ≡ None → errors_from 0 ns ≡ []
accepted o ns h k = head-none (errors_from 0 ns) (sym k ∙ (ap (λ z. z.first) h ∙ first_after nothing ns))

pub all_uses : (o : Findings) (ns : List Node) → o ≡ after nothing ns → o.uses ≡ uses_from 0 ns
all_uses o ns h = ap (λ z. z.uses) h ∙ uses_after nothing ns
