-- Ways of making that follow one another: what is made of parts, lists, texts, names, bodies and scopes.
use Rattle.std.proofs.Common.{◌≡◌, refl, sym, ap, subst, ◌∙◌, ℕ, ◌+◌, Bool, true, false, List, [], ◌∷◌, ◌++◌, length, map, slice_set, Option, Some, None, append_assoc}
use Rattle.std.proofs.lemmas.List.{append-nil}
use Rattle.std.specs.Option.{option_map}
use Rattle.actx_text.specs.declared.units.Units.{Units}
use Rattle.actx_text.specs.declared.body_id.BodyId.{BodyId}
use Rattle.actx_value.specs.declared.value.Value.{Value}
use Rattle.actx_scope_rules.specs.Scopes.{Scope, found}
use Rattle.actx_core.specs.declared.meaning.Meaning.{Meaning}
use Rattle.actx_core.specs.declared.core_form.Core.{Core}
use Rattle.actx_core.specs.Making.{CoreBody, Numbered, Around, Made, Making, just, and_then, of1, of2, of3, of4, all, maybe, undefined, or_undefined, or_true, text_number, text_of, text_value, unmade, numbered, body_id, body_made}
use Rattle.actx_core.specs.Names.{meaning_in, by_scopes, by_uses, entered, with_this, scoped}
use Rattle.actx_core.specs.Laws.{Meanings, Followed, Follows}

pub just_follows : {A : Type 0} (v : A) → Follows (just v) (just v)
just_follows v = record { follows = λ scopes this s rest. record { met = []; noted = sym (append-nil s.uses); same = refl } }

-- one after the other
both_followed : {A B : Type 0} (i : Made A) (y : Meanings → Made A) (g : A → Numbered → Made B) (j : Made B) (before rest : Meanings)
    → (q : Followed j (λ uses. g i.value (record i.after { uses = uses })) i.after.uses rest)
    → Followed i y before (q.met ++ rest)
    → Followed j (λ uses. let k : Made A = y uses in g k.value k.after) before rest
both_followed i y g j before rest q p = record {
  met = p.met ++ q.met;
  noted = q.noted ∙ (ap (λ z. z ++ q.met) p.noted ∙ append_assoc before p.met q.met);
  same = ap (λ z. let k : Made _ = y z in g k.value k.after) (append_assoc p.met q.met rest) ∙ (ap (λ (k : Made _). g k.value k.after) p.same ∙ q.same);
}

pub and_then_follows : {A B : Type 0} {x y : Making A} (f g : A → Making B) → Follows x y → ((v : A) → Follows (f v) (g v)) → Follows (and_then x f) (and_then y g)
and_then_follows {x} {y} f g h k = record {
  follows = λ scopes this s rest.
      let a : Around = record { scopes = scopes; this = this } in
      let b : Around = record { scopes = []; this = this } in
      let i : Made _ = x a s in
      let q : Followed (f i.value a i.after) (λ uses. g i.value b (record i.after { uses = uses })) i.after.uses rest = (k i.value).follows scopes this i.after rest in
      both_followed i (λ uses. y b (record s { uses = uses })) (λ v t. g v b t) (f i.value a i.after) s.uses rest q (h.follows scopes this s (q.met ++ rest));
}

pub of1_follows : {A R : Type 0} (f : A → R) {x y : Making A} → Follows x y → Follows (of1 f x) (of1 f y)
of1_follows f h = and_then_follows (λ i. just (f i)) (λ i. just (f i)) h (λ v. just_follows (f v))

pub of2_follows : {A B R : Type 0} (f : A → B → R) {x x' : Making A} {y y' : Making B} → Follows x x' → Follows y y' → Follows (of2 f x y) (of2 f x' y')
of2_follows f {y} {y'} h k = and_then_follows (λ i. of1 (f i) y) (λ i. of1 (f i) y') h (λ v. of1_follows (f v) k)

pub of3_follows : {A B C R : Type 0} (f : A → B → C → R) {x x' : Making A} {y y' : Making B} {z z' : Making C} → Follows x x' → Follows y y' → Follows z z' → Follows (of3 f x y z) (of3 f x' y' z')
of3_follows f {y} {y'} {z} {z'} h k l = and_then_follows (λ i. of2 (f i) y z) (λ i. of2 (f i) y' z') h (λ v. of2_follows (f v) k l)

pub of4_follows : {A B C D R : Type 0} (f : A → B → C → D → R) {x x' : Making A} {y y' : Making B} {z z' : Making C} {w w' : Making D}
    → Follows x x' → Follows y y' → Follows z z' → Follows w w' → Follows (of4 f x y z w) (of4 f x' y' z' w')
of4_follows f {y} {y'} {z} {z'} {w} {w'} h k l m = and_then_follows (λ i. of3 (f i) y z w) (λ i. of3 (f i) y' z' w') h (λ v. of3_follows (f v) k l m)

-- ---- lists and what may be left out

-- two lists whose members correspond
pub data Lists {A : Type 0} (R : A → A → Type 0) : List A → List A → Type 0 where
  ends : Lists R [] []
  more : {x y : A} {xs ys : List A} → R x y → Lists R xs ys → Lists R (x ∷ xs) (y ∷ ys)

pub data Options {A : Type 0} (R : A → A → Type 0) : Option A → Option A → Type 0 where
  absent : Options R None None
  present : {x y : A} → R x y → Options R (Some x) (Some y)

pub all_follows : {A : Type 0} {xs ys : List (Making A)} → Lists Follows xs ys → Follows (all xs) (all ys)
unfolding all
all_follows ends = just_follows []
all_follows (more h hs) = of2_follows (λ y ys. y ∷ ys) h (all_follows hs)

pub maybe_follows : {A : Type 0} {x y : Option (Making A)} → Options Follows x y → Follows (maybe x) (maybe y)
maybe_follows absent = just_follows None
maybe_follows (present h) = of1_follows (λ y. Some y) h

pub or_undefined_follows : {x y : Option (Making Core)} → Options Follows x y → Follows (or_undefined x) (or_undefined y)
or_undefined_follows absent = just_follows undefined
or_undefined_follows (present h) = h

pub or_true_follows : {x y : Option (Making Core)} → Options Follows x y → Follows (or_true x) (or_true y)
or_true_follows absent = just_follows _
or_true_follows (present h) = h

-- ---- texts and names

pub number_follows : (text : Units) → Follows (text_number text) (text_number text)
number_follows [] = record { follows = λ scopes this s rest. record { met = []; noted = sym (append-nil s.uses); same = refl } }
number_follows (u ∷ us) = record { follows = λ scopes this s rest. record { met = []; noted = sym (append-nil s.uses); same = refl } }

pub text_follows : (text : Units) → Follows (text_value text) (text_value text)
text_follows text = of1_follows text_of (number_follows text)

pub meaning_follows : (name : Units) → Follows (by_scopes.meaning name) (by_uses.meaning name)
meaning_follows name = record { follows = λ scopes this s rest. record { met = meaning_in scopes name ∷ []; noted = refl; same = refl } }

-- ---- bodies and scopes

pub numbered_follows : {A : Type 0} (f : A → CoreBody) {x y : Making A} → Follows x y → Follows (numbered f x) (numbered f y)
numbered_follows f h = record {
  follows = λ scopes this s rest.
      let p = h.follows scopes this (record s { bodies = s.bodies ++ unmade ∷ [] }) rest in
      record {
        met = p.met;
        noted = p.noted;
        same = ap (λ (j : Made _). record { value = (length s.bodies, j.value); after = record j.after { bodies = slice_set j.after.bodies (length s.bodies) (f j.value) } }) p.same;
      };
}

pub body_follows : {x y : Making CoreBody} → Follows x y → Follows (body_made x) (body_made y)
body_follows h = of1_follows (λ z. body_id z.0) (numbered_follows (λ b. b) h)

pub entered_follows : {A : Type 0} (slots : Scope) {x y : Making A} → Follows x y → Follows (λ a. x (entered by_scopes slots a)) (λ a. y (entered by_uses slots a))
entered_follows slots h = record { follows = λ scopes this s rest. h.follows (slots ∷ scopes) (option_map (λ hops. hops + 1) this) s rest }

pub with_this_follows : {A : Type 0} (slots : Scope) {x y : Making A} → Follows x y → Follows (λ a. x (with_this by_scopes slots a)) (λ a. y (with_this by_uses slots a))
with_this_follows slots h = record { follows = λ scopes this s rest. h.follows (slots ∷ scopes) (Some 0) s rest }

pub scoped_follows : {A : Type 0} (slots : Scope) {x y : Making A} → Follows x y → Follows (scoped by_scopes slots x) (scoped by_uses slots y)
scoped_follows [] h = record { follows = h.follows }
scoped_follows (slot ∷ slots) h = entered_follows (slot ∷ slots) h
