-- What a copy gives.
use Rattle.std.proofs.Common.{◌≡◌, ℕ, suc, cond, Bool, true, false, List, [], ◌∷◌, length, Some, None, refl, sym, subst}
use Rattle.actx_value.specs.Texts.{TextStore, units_of}
use Rattle.actx_value.specs.declared.ids.ObjId.{ObjId}
use Rattle.actx_value.specs.declared.value.Key.{Key}
use Rattle.actx_value.specs.declared.value.Key.TheVariants.{Index}
use Rattle.actx_value.specs.declared.value.Value.{Value}
use Rattle.actx_value.specs.declared.value.Value.TheVariants.{Undefined, Text as TextValue}
use Rattle.actx_value.specs.declared.value.Answer.TheVariants.{Go}
use Rattle.actx_value.specs.declared.end.Which.{Which}
use Rattle.actx_value.specs.declared.end.Which.TheVariants.{Properties, Text}
use Rattle.actx_objects.specs.Objects.{ObjectStore}
use Rattle.actx_request.specs.declared.given.Given.{Given}
use Rattle.actx_request.specs.declared.given.Given.TheVariants.{Answer, Limit}
use Rattle.actx_request.specs.Outcomes.{stores}
use Rattle.actx_request.specs.Limits.{properties_above, text_above, IsMet, MeetsObjects}
use Rattle.actx_request.specs.Copies.{with_pairs_at, with_units, numbered, copy_pairs, copy_units}
use Rattle.actx_request.specs.Puts.{first_key, first_index, IsOpened, IsShut, with_units_at, units_above}
use Rattle.actx_request.proofs.Above.{stays}
use Rattle.actx_request.proofs.OpenLemmas.{copy_done, copy_stopped}

module _ (o : ObjId) (s t : ObjectStore) (texts : TextStore) (k : Key) (opened : IsOpened texts.texts o k s t) where
  moved : (j : Key) → j ≡ k → IsOpened texts.texts o j s t
  moved j h = subst (λ (i : Key). IsOpened texts.texts o i s t) (sym h) opened

  pub pairs_done : (pairs : List (Key × Value)) (u : ObjectStore) → first_key pairs ≡ Some k → properties_above t (with_pairs_at texts.texts pairs o t) ≡ false → u ≡ with_pairs_at texts.texts pairs o t → MeetsObjects (copy_pairs o pairs) s texts (Answer (Go Undefined)) u texts
  pairs_done [] u h low is cells = absurd (cc)
  pairs_done (e ∷ es) u h low is cells =
      copy_done texts s o e.0 t (moved e.0 (let j : e.0 ≡ k = cc in j)) e.1 es texts refl cells u low (stays texts.limit (units_of texts.texts)) is

  pub pairs_full : (pairs : List (Key × Value)) (u : ObjectStore) → first_key pairs ≡ Some k → properties_above t (with_pairs_at texts.texts pairs o t) ≡ true → MeetsObjects (copy_pairs o pairs) s texts (Limit Properties) u texts
  pairs_full [] u h high cells = absurd (cc)
  pairs_full (e ∷ es) u h high cells =
      copy_stopped texts s o e.0 t (moved e.0 (let j : e.0 ≡ k = cc in j)) e.1 es texts refl cells (stores u texts cells) true false Properties high (stays texts.limit (units_of texts.texts)) refl

  none_of : (p q : Bool) → None ≡ cond p (Some Properties) (cond q (Some Text) None) → (p ≡ false) × (q ≡ false)
  none_of true q h = absurd (cc)
  none_of false true h = absurd (cc)
  none_of false false h = (refl, refl)

  pub units_done : (es : List (ℕ × ℕ)) (u : ObjectStore) (v : TextStore) → first_index es ≡ Some k → None ≡ units_above es o t texts → u ≡ with_units_at es o t texts → v ≡ with_units es texts → MeetsObjects (copy_units o es) s texts (Answer (Go Undefined)) u v
  units_done [] u v h free is js cells = absurd (cc)
  units_done (e ∷ es) u v h free is js cells =
      let n : ℕ = length texts.texts in
      let more : TextStore = with_units (e ∷ es) texts in
      let both = none_of (properties_above t (with_units_at (e ∷ es) o t texts)) (text_above texts more) free in
      subst (λ (w : TextStore). IsMet (copy_units o (e ∷ es) (stores s texts cells)) (stores s texts cells) (Answer (Go Undefined)) (stores u w cells)) (sym js)
      (copy_done texts s o (Index e.0) t (moved (Index e.0) (let j : Index e.0 ≡ k = cc in j)) (TextValue (record { 0 = n })) (numbered (suc n) es) more refl cells u both.0 both.1 is)

  pub units_stopped : (es : List (ℕ × ℕ)) (u : ObjectStore) (v : TextStore) (w : Which) → first_index es ≡ Some k → Some w ≡ units_above es o t texts → MeetsObjects (copy_units o es) s texts (Limit w) u v
  units_stopped [] u v w h high cells = absurd (cc)
  units_stopped (e ∷ es) u v w h high cells =
      let n : ℕ = length texts.texts in
      let more : TextStore = with_units (e ∷ es) texts in
      copy_stopped texts s o (Index e.0) t (moved (Index e.0) (let j : Index e.0 ≡ k = cc in j)) (TextValue (record { 0 = n })) (numbered (suc n) es) more refl cells (stores u v cells)
      (properties_above t (with_units_at (e ∷ es) o t texts)) (text_above texts more) w refl refl (sym high)

-- an object that takes nothing
pub pairs_shut : (o : ObjId) (s : ObjectStore) (texts : TextStore) (k : Key) (g : Given) (u : ObjectStore) (pairs : List (Key × Value)) → first_key pairs ≡ Some k → IsShut o k s texts g u → MeetsObjects (copy_pairs o pairs) s texts g u texts
pairs_shut o s texts k g u [] h shut cells = absurd (cc)
pairs_shut o s texts k g u (e ∷ es) h shut cells =
    let shut' : IsShut o e.0 s texts g u = subst (λ (i : Key). IsShut o i s texts g u) (let j : k ≡ e.0 = cc in j) shut in
    shut' e.1 es texts.texts refl cells
