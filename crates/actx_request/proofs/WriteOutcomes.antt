-- What a write and the end of a property give.
use Rattle.std.proofs.Common.{◌≡◌, Bool, true, false, Option, Some, None, refl, sym, ap, subst}
use Rattle.actx_value.specs.Texts.{TextStore}
use Rattle.actx_value.specs.declared.ids.ObjId.{ObjId}
use Rattle.actx_value.specs.declared.value.Key.{Key}
use Rattle.actx_value.specs.declared.value.Value.{Value}
use Rattle.actx_value.specs.declared.value.Value.TheVariants.{Undefined, Bool as Truth}
use Rattle.actx_value.specs.declared.value.Answer.TheVariants.{Go}
use Rattle.actx_value.specs.declared.error_kind.ErrorKind.TheVariants.{TypeError}
use Rattle.actx_value.specs.declared.end.Which.TheVariants.{Properties}
use Rattle.actx_cells.specs.Scopes.{ScopeStore}
use Rattle.actx_objects.specs.declared.refusal.SetError.{SetError}
use Rattle.actx_objects.specs.declared.refusal.SetError.TheVariants.{Frozen, Full}
use Rattle.actx_objects.specs.declared.refusal.DeleteError.{DeleteError}
use Rattle.actx_objects.specs.Objects.{ObjectStore}
use Rattle.actx_objects.specs.Writes.{refusal_of, written, delete_refusal, deleted}
use Rattle.actx_request.specs.declared.given.Given.{Given}
use Rattle.actx_request.specs.declared.given.Given.TheVariants.{Answer, Throw, Limit}
use Rattle.actx_request.specs.Outcomes.{stores}
use Rattle.actx_request.specs.Limits.{IsMet, MeetsObjects, within, first_above}
use Rattle.actx_request.specs.Writes.{written_unless, write_to, deleted_unless, delete_on}
use Rattle.actx_request.proofs.Above.{objects_alone}
use Rattle.actx_request.proofs.WriteLemmas.{length-written, written_fits, written_above, length-deleted, deleted_fits}

module _ (hidden : Bool) (o : ObjId) (k : Key) (v : Value) (objects : ObjectStore) (texts : TextStore) where
  -- by what refuses the write
  abbrev by_refusal : ObjectStore → Given → ScopeStore → Option SetError → Type 0
  by_refusal after g cells r =
      IsMet (written_unless r (stores (written texts.texts objects o k v hidden) texts cells) (stores objects texts cells)) (stores objects texts cells) g (stores after texts cells)

  pub write_done : (after : ObjectStore) → refusal_of texts.texts objects o k v ≡ None → after ≡ written texts.texts objects o k v hidden → MeetsObjects (write_to hidden o k v) objects texts (Answer (Go Undefined)) after texts
  write_done after free is cells =
      let above : first_above (stores objects texts cells) (stores (written texts.texts objects o k v hidden) texts cells) ≡ None =
      objects_alone texts cells objects (written texts.texts objects o k v hidden) false (length-written texts.texts objects o k v hidden) (written_fits texts.texts objects o k v hidden free) in
      subst (by_refusal after (Answer (Go Undefined)) cells) (sym free) (sym (ap (within (Answer (Go Undefined))) above), ap (λ p. stores p texts cells) is)

  pub write_full : (after : ObjectStore) → refusal_of texts.texts objects o k v ≡ Some Full → MeetsObjects (write_to hidden o k v) objects texts (Limit Properties) after texts
  write_full after full cells =
      let above : first_above (stores objects texts cells) (stores (written texts.texts objects o k v hidden) texts cells) ≡ Some Properties =
      objects_alone texts cells objects (written texts.texts objects o k v hidden) true (length-written texts.texts objects o k v hidden) (written_above texts.texts objects o k v hidden full) in
      subst (by_refusal after (Limit Properties) cells) (sym full) (sym (ap (within (Answer (Go Undefined))) above), tt)

  pub write_frozen : (after : ObjectStore) → refusal_of texts.texts objects o k v ≡ Some Frozen → after ≡ objects → MeetsObjects (write_to hidden o k v) objects texts (Throw (TypeError 4)) after texts
  write_frozen after frozen is cells = subst (by_refusal after (Throw (TypeError 4)) cells) (sym frozen) (refl, ap (λ p. stores p texts cells) is)

module _ (o : ObjId) (k : Key) (objects : ObjectStore) (texts : TextStore) where
  abbrev by_refusal' : ObjectStore → Given → ScopeStore → Option DeleteError → Type 0
  by_refusal' after g cells r =
      IsMet (deleted_unless r (stores (deleted texts.texts objects o k) texts cells) (stores objects texts cells)) (stores objects texts cells) g (stores after texts cells)

  pub delete_done : (after : ObjectStore) → delete_refusal texts.texts objects o k ≡ None → after ≡ deleted texts.texts objects o k → MeetsObjects (delete_on o k) objects texts (Answer (Go (Truth true))) after texts
  delete_done after free is cells =
      let above : first_above (stores objects texts cells) (stores (deleted texts.texts objects o k) texts cells) ≡ None =
      objects_alone texts cells objects (deleted texts.texts objects o k) false (length-deleted texts.texts objects o k) (deleted_fits texts.texts objects o k) in
      subst (by_refusal' after (Answer (Go (Truth true))) cells) (sym free) (sym (ap (within (Answer (Go (Truth true)))) above), ap (λ p. stores p texts cells) is)
