-- Laws of keys, where `texts` are the texts by number.
use Rattle.std.specs.Prelude.{◌≡◌, ◌↔◌, ℕ, true, List}
use Rattle.actx_value.specs.Texts.{text_at, HasOneEmptyText}
use Rattle.actx_value.specs.declared.ids.TextId.{TextId}
use Rattle.actx_value.specs.declared.value.Key.TheVariants.{Name}
use Rattle.actx_value.specs.declared.value.Value.TheVariants.{Text}
use Rattle.actx_objects.specs.Keys.{normal_key, normal_value, key_eq, value_eq}

-- the normal keys of two names are one exactly where their texts are, and so are the keys of entries
pub record TellsNames (texts : List (List ℕ)) : Type 0 where
  pub names : (a b : TextId) → (key_eq (normal_key texts (Name a)) (normal_key texts (Name b)) ≡ true) ↔ (text_at texts a.0 ≡ text_at texts b.0)
  pub entries : (a b : TextId) → (value_eq (normal_value texts (Text a)) (normal_value texts (Text b)) ≡ true) ↔ (text_at texts a.0 ≡ text_at texts b.0)

abbrev pub NamesAreEqualWhereTextsAre : Type 0
NamesAreEqualWhereTextsAre = (texts : List (List ℕ)) → HasOneEmptyText texts → TellsNames texts
