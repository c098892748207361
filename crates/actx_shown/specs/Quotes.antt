-- Texts and keys inside of containers.
use Rattle.std.specs.Prelude.{ℕ, Bool, false, ◌&&◌, ◌||◌, nat_le, ◌==◌, List, [], ◌∷◌, ◌++◌, flat_map, if◌then◌else◌}
use Rattle.std.specs.List.{list_all}
use Rattle.std.specs.Fmt.{decimal}
use Rattle.actx_value.specs.Texts.{text_at}
use Rattle.actx_value.specs.declared.value.Key.{Key}
use Rattle.actx_value.specs.declared.value.Key.TheVariants.{Index, Name}

-- one unit of a text in quotes: a line feed as `\n`, and a backslash before `'` and before a backslash
unfoldable pub unit_form : ℕ → List ℕ
unit_form u = if u == 0x0A then 0x5C ∷ 0x6E ∷ []
    else (if u == 0x27 || u == 0x5C then 0x5C ∷ u ∷ [] else u ∷ [])

abbrev pub text_form : List ℕ → List ℕ
text_form text = 0x27 ∷ flat_map unit_form text ++ 0x27 ∷ []

-- an ASCII letter, `_` or `$`
abbrev pub begins_word : ℕ → Bool
begins_word u = nat_le 0x41 u && nat_le u 0x5A || nat_le 0x61 u && nat_le u 0x7A || u == 0x5F || u == 0x24

-- one of these, or an ASCII digit
abbrev pub goes_on_word : ℕ → Bool
goes_on_word u = begins_word u || nat_le 0x30 u && nat_le u 0x39

abbrev pub is_word : List ℕ → Bool
is_word [] = false
is_word (u ∷ us) = begins_word u && list_all goes_on_word us

-- a key: an ASCII word as it is, any other text in quotes
abbrev pub name_form : List ℕ → List ℕ
name_form text = if is_word text then text else text_form text

abbrev pub key_form : List (List ℕ) → Key → List ℕ
key_form texts (Index i) = text_form (decimal i)
key_form texts (Name t) = name_form (text_at texts t.0)
