-- A file is not accepted and refused at once, and its refusals agree.
use Rattle.std.proofs.Common.{◌≡◌, ℕ, ◌<◌, List, [], length, Option, slice_get, refl, sym, ap, subst, ◌∙◌, arith}
use Rattle.std.specs.Option.{option_map_or}
use Rattle.actx_text.specs.Texts.{IsTextOf}
use Rattle.actx_text.specs.Utf8.{IsFirstIllFormed}
use Rattle.actx_text.proofs.Utf8Lemmas.{not_utf8, same_place}
use Rattle.actx_text.proofs.TextLemmas as texts
use Rattle.actx_lex.specs.declared.token.Token.{Token}
use Rattle.actx_lex.specs.TokenLists.{SpellsTokens, Reaches}
use Rattle.actx_lex.proofs.OneList.{one-list}
use Rattle.actx_tree.specs.declared.tree.Tree.{Tree as FileTree}
use Rattle.actx_program.specs.Trees.{SpTree}
use Rattle.actx_program.proofs.TreeLaws.{one_program}
use Rattle.actx_scope_rules.specs.declared.early.Early.{Early as EarlyError}
use Rattle.actx_scope_rules.specs.Early.{early_errors}
use Rattle.actx_printing.specs.Printing.{Prints}
use Rattle.actx_printing.proofs.Injective.{one_printing}
use Rattle.actx_cli.specs.declared.answer.Refusal.{Refusal}
use Rattle.actx_cli.specs.declared.answer.Refusal.TheVariants.{Utf8, Token as TokenKind, Tree, Nested, Early, NotBuilt}
use Rattle.actx_cli.specs.Printed.{printed}
use Rattle.actx_cli.specs.Accepted.{IsTokenized, IsBadToken, IsParsed, IsSound, HasNoTree, IsNested, HasEarlyError, IsEither, IsAccepted, IsRefused, Agree}

-- bytes spell one text
same_text : (bytes a b : List ℕ) → IsTextOf bytes a → IsTextOf bytes b → a ≡ b
same_text bytes a b h k = texts.one_text bytes a k.0 h k.1 ∙ sym k.2

ill_formed : (bytes text : List ℕ) (at : ℕ) → IsFirstIllFormed bytes at → IsTextOf bytes text → ⊥
ill_formed bytes text at h k = not_utf8 bytes at h (k.0, k.1)

-- a text with a token list has no bad token
spelled : (bytes : List ℕ) (tokens : List Token) (text : List ℕ) (at : ℕ) → IsTokenized bytes tokens → IsTextOf bytes text → IsBadToken text at → ⊥
spelled bytes tokens text at t h bad = bad.none tokens (subst (SpellsTokens tokens) (same_text bytes t.text text t.is_text h) t.spelled)

same_reach : (bytes a b : List ℕ) (at place : ℕ) → IsTextOf bytes a → IsBadToken a at → IsTextOf bytes b → IsBadToken b place → at ≡ place
same_reach bytes a b at place h bad k other =
    let same = same_text bytes a b h k in
    let le = other.no_further at (subst (λ (t : List ℕ). Reaches t at) same bad.reached) in
    let ge = bad.no_further place (subst (λ (t : List ℕ). Reaches t place) (sym same) other.reached) in
    omega arith

-- bytes have one token list
one_tokens : (bytes : List ℕ) (a b : List Token) → IsTokenized bytes a → IsTokenized bytes b → a ≡ b
one_tokens bytes a b h k = one-list (subst (SpellsTokens a) (same_text bytes h.text k.text h.is_text k.is_text) h.spelled) k.spelled

-- the tree of a file is spelled by its one token list
its_tree : (bytes : List ℕ) (tree : FileTree) (tokens : List Token) (p : IsParsed bytes tree) → IsTokenized bytes tokens → SpTree tokens tree p.levels
its_tree bytes tree tokens p t = subst (λ (ts : List Token). SpTree ts tree p.levels) (one_tokens bytes p.tokens tokens p.tokenized t) p.spelled

one_tree : (bytes : List ℕ) (s t : FileTree) → IsParsed bytes s → IsParsed bytes t → s ≡ t
one_tree bytes s t p q = one_program q.tokens s t p.levels q.levels (its_tree bytes s q.tokens p q.tokenized) q.spelled

treeless : (bytes : List ℕ) (tree : FileTree) (tokens : List Token) → IsParsed bytes tree → IsTokenized bytes tokens → HasNoTree tokens → ⊥
treeless bytes tree tokens p t none = none tree p.levels (its_tree bytes tree tokens p t)

too_deep : (bytes : List ℕ) (tree : FileTree) (tokens : List Token) → IsParsed bytes tree → IsTokenized bytes tokens → IsNested tokens → ⊥
too_deep bytes tree tokens p t n = omega (arith, n.deep tree p.levels (its_tree bytes tree tokens p t), p.fits)

either : (bytes : List ℕ) (a b : List Token) → IsTokenized bytes a → HasNoTree a → IsTokenized bytes b → IsNested b → IsEither bytes
either bytes a b h none k n = record {
  tokens = a;
  tokenized = h;
  long = subst (λ (ts : List Token). 100 < length ts) (one_tokens bytes b a k h) n.long;
  none = none;
}

-- a tree without early errors has no first one
no_first : (tree : FileTree) (at : ℕ) → early_errors tree ≡ [] → HasEarlyError tree at → ⊥
no_first tree at sound h = let none = ap (λ (es : List EarlyError). slice_get es 0) sound in cc (none, h.1)

-- the first error of a tree stands at one place
same_first : (tree : FileTree) (at place : ℕ) → HasEarlyError tree at → HasEarlyError tree place → at ≡ place
same_first tree at place h k = ap (λ (o : Option EarlyError). option_map_or (λ (e : EarlyError). e.at) o 0) (sym h.1 ∙ k.1)

moved_error : (bytes : List ℕ) (s t : FileTree) (at : ℕ) → IsParsed bytes s → IsParsed bytes t → HasEarlyError s at → HasEarlyError t at
moved_error bytes s t at p q h = subst (λ (x : FileTree). HasEarlyError x at) (one_tree bytes s t p q) h

-- a file whose tree is sound has no early error
unsound : (bytes : List ℕ) (s t : FileTree) (at : ℕ) → IsParsed bytes s → HasEarlyError s at → IsSound bytes t → ⊥
unsound bytes s t at p h sound = no_first t at sound.sound (moved_error bytes s t at p sound.parsed h)

pub one_refusal : (bytes : List ℕ) (kind other : Refusal) (at place : ℕ) → IsRefused bytes kind at → IsRefused bytes other place → Agree bytes kind at other place
one_refusal bytes Utf8 Utf8 at place h k = (refl, same_place bytes at place h k)
one_refusal bytes Utf8 TokenKind at place h k = absurd (ill_formed bytes k.0 at h k.1)
one_refusal bytes Utf8 Tree at place h k = absurd (ill_formed bytes k.1.text at h k.1.is_text)
one_refusal bytes Utf8 Nested at place h k = absurd (ill_formed bytes k.1.text at h k.1.is_text)
one_refusal bytes Utf8 Early at place h k = absurd (ill_formed bytes k.1.tokenized.text at h k.1.tokenized.is_text)
one_refusal bytes Utf8 NotBuilt at place h k = absurd (ill_formed bytes k.1.parsed.tokenized.text at h k.1.parsed.tokenized.is_text)
one_refusal bytes TokenKind Utf8 at place h k = absurd (ill_formed bytes h.0 place k h.1)
one_refusal bytes TokenKind TokenKind at place h k = (refl, same_reach bytes h.0 k.0 at place h.1 h.2 k.1 k.2)
one_refusal bytes TokenKind Tree at place h k = absurd (spelled bytes k.0 h.0 at k.1 h.1 h.2)
one_refusal bytes TokenKind Nested at place h k = absurd (spelled bytes k.0 h.0 at k.1 h.1 h.2)
one_refusal bytes TokenKind Early at place h k = absurd (spelled bytes k.1.tokens h.0 at k.1.tokenized h.1 h.2)
one_refusal bytes TokenKind NotBuilt at place h k = absurd (spelled bytes k.1.parsed.tokens h.0 at k.1.parsed.tokenized h.1 h.2)
one_refusal bytes Tree Utf8 at place h k = absurd (ill_formed bytes h.1.text place k h.1.is_text)
one_refusal bytes Tree TokenKind at place h k = absurd (spelled bytes h.0 k.0 place h.1 k.1 k.2)
one_refusal bytes Tree Tree at place h k = tt
one_refusal bytes Tree Nested at place h k = either bytes h.0 k.0 h.1 h.2 k.1 k.2
one_refusal bytes Tree Early at place h k = absurd (treeless bytes k.0 h.0 k.1 h.1 h.2)
one_refusal bytes Tree NotBuilt at place h k = absurd (treeless bytes k.0 h.0 k.1.parsed h.1 h.2)
one_refusal bytes Nested Utf8 at place h k = absurd (ill_formed bytes h.1.text place k h.1.is_text)
one_refusal bytes Nested TokenKind at place h k = absurd (spelled bytes h.0 k.0 place h.1 k.1 k.2)
one_refusal bytes Nested Tree at place h k = either bytes k.0 h.0 k.1 k.2 h.1 h.2
one_refusal bytes Nested Nested at place h k = tt
one_refusal bytes Nested Early at place h k = absurd (too_deep bytes k.0 h.0 k.1 h.1 h.2)
one_refusal bytes Nested NotBuilt at place h k = absurd (too_deep bytes k.0 h.0 k.1.parsed h.1 h.2)
one_refusal bytes Early Utf8 at place h k = absurd (ill_formed bytes h.1.tokenized.text place k h.1.tokenized.is_text)
one_refusal bytes Early TokenKind at place h k = absurd (spelled bytes h.1.tokens k.0 place h.1.tokenized k.1 k.2)
one_refusal bytes Early Tree at place h k = absurd (treeless bytes h.0 k.0 h.1 k.1 k.2)
one_refusal bytes Early Nested at place h k = absurd (too_deep bytes h.0 k.0 h.1 k.1 k.2)
one_refusal bytes Early Early at place h k = (refl, same_first k.0 at place (moved_error bytes h.0 k.0 at h.1 k.1 h.2) k.2)
one_refusal bytes Early NotBuilt at place h k = absurd (unsound bytes h.0 k.0 at h.1 h.2 k.1)
one_refusal bytes NotBuilt Utf8 at place h k = absurd (ill_formed bytes h.1.parsed.tokenized.text place k h.1.parsed.tokenized.is_text)
one_refusal bytes NotBuilt TokenKind at place h k = absurd (spelled bytes h.1.parsed.tokens k.0 place h.1.parsed.tokenized k.1 k.2)
one_refusal bytes NotBuilt Tree at place h k = absurd (treeless bytes h.0 k.0 h.1.parsed k.1 k.2)
one_refusal bytes NotBuilt Nested at place h k = absurd (too_deep bytes h.0 k.0 h.1.parsed k.1 k.2)
one_refusal bytes NotBuilt Early at place h k = absurd (unsound bytes k.0 h.0 place k.1 k.2 h.1)
one_refusal bytes NotBuilt NotBuilt at place h k = (refl, h.3 ∙ sym k.3)

pub not_both : (bytes text : List ℕ) (kind : Refusal) (at : ℕ) → IsAccepted bytes text → IsRefused bytes kind at → ⊥
not_both bytes text Utf8 at a h = ill_formed bytes a.is_sound.parsed.tokenized.text at h a.is_sound.parsed.tokenized.is_text
not_both bytes text TokenKind at a h = spelled bytes a.is_sound.parsed.tokens h.0 at a.is_sound.parsed.tokenized h.1 h.2
not_both bytes text Tree at a h = treeless bytes a.tree h.0 a.is_sound.parsed h.1 h.2
not_both bytes text Nested at a h = too_deep bytes a.tree h.0 a.is_sound.parsed h.1 h.2
not_both bytes text Early at a h = unsound bytes h.0 a.tree at h.1 h.2 a.is_sound
not_both bytes text NotBuilt at a h = h.2 a.literals (subst (λ (t : FileTree). Prints t a.literals) (one_tree bytes a.tree h.0 a.is_sound.parsed h.1.parsed) a.prints)

pub one_text : (bytes text other : List ℕ) → IsAccepted bytes text → IsAccepted bytes other → text ≡ other
one_text bytes text other a b =
    let moved : Prints b.tree a.literals = subst (λ (t : FileTree). Prints t a.literals) (one_tree bytes a.tree b.tree a.is_sound.parsed b.is_sound.parsed) a.prints in
    a.text_is ∙ (ap printed (one_printing b.tree a.literals b.literals moved b.prints) ∙ sym b.text_is)
