-- Patterns, declarations and parameters (ECMA-262 §8.6, §14.3, §15.1). What they bind stands in the present scope, from a
-- slot on, in the order of the source.
use Rattle.std.specs.Prelude.{ℕ, ◌+◌, List, [], ◌∷◌, ◌++◌, length, Option, Some, None}
use Rattle.std.specs.Option.{option_map}
use Rattle.actx_text.specs.declared.units.Units.{Units}
use Rattle.actx_core.specs.declared.core_form.Core.{Core}
use Rattle.actx_core.specs.declared.core_form.Core.TheVariants as forms
use Rattle.actx_core.specs.declared.core_parts.CoreElement.{CoreElement}
use Rattle.actx_core.specs.declared.core_parts.CoreElement.TheVariants as element
use Rattle.actx_core.specs.declared.core_parts.CorePattern.{CorePattern}
use Rattle.actx_core.specs.declared.core_parts.CorePattern.TheVariants as pattern
use Rattle.actx_core.specs.declared.core_parts.CoreProperty.{CoreProperty}
use Rattle.actx_core.specs.declared.core_parts.CoreProperty.TheVariants as property
use Rattle.actx_core.specs.Making.{Making, just, of1, of2, maybe, or_undefined, text_value}
use Rattle.actx_core.specs.Functions.{Params, Key}

-- ---- what is bound

-- An expression, as it is under a name that a function without one takes.
abbrev pub Named : Type 0
Named = Units → Making Core

-- the value of a default or an initialiser, without a name
abbrev pub unnamed : Option Named → Option (Making Core)
unnamed x = option_map (λ f. f []) x

-- A target: the names that it binds, and the name if it is one alone.
pub record Target : Type 0 where
  pub names : List Units
  pub alone : Option Units
  pub pattern : ℕ → Making CorePattern

-- A target with its default: as a part of a pattern, and as a declaration of its own.
pub record Elem : Type 0 where
  pub names : List Units
  pub element : ℕ → Making CoreElement
  pub declared : ℕ → Making Core

pub record Prop : Type 0 where
  pub names : List Units
  pub property : ℕ → Making CoreProperty

-- ---- lists of parts

abbrev pub elem_names : List Elem → List Units
elem_names [] = []
elem_names (e ∷ es) = e.names ++ elem_names es

abbrev pub prop_names : List Prop → List Units
prop_names [] = []
prop_names (p ∷ ps) = p.names ++ prop_names ps

abbrev pub listed : {A : Type 0} → Option A → List A
listed None = []
listed (Some x) = x ∷ []

unfoldable pub elements_from : List Elem → ℕ → Making (List CoreElement)
elements_from [] slot = just []
elements_from (e ∷ es) slot = of2 (λ x xs. x ∷ xs) (e.element slot) (elements_from es (slot + length e.names))

unfoldable pub properties_from : List Prop → ℕ → Making (List CoreProperty)
properties_from [] slot = just []
properties_from (p ∷ ps) slot = of2 (λ x xs. x ∷ xs) (p.property slot) (properties_from ps (slot + length p.names))

-- `let` and `const` (§14.3.1.2): each of the declarations
unfoldable pub declared_from : List Elem → ℕ → Making (List Core)
declared_from [] slot = just []
declared_from (e ∷ es) slot = of2 (λ x xs. x ∷ xs) (e.declared slot) (declared_from es (slot + length e.names))

-- parameters, the first of which has an index (§8.6.3)
unfoldable pub parameters_from : List Elem → ℕ → ℕ → Making (List Core)
parameters_from [] index slot = just []
parameters_from (e ∷ es) index slot = of2 (λ x xs. forms.Parameter index x ∷ xs) (e.element slot) (parameters_from es (index + 1) (slot + length e.names))

-- the slot of the name after `...`
abbrev pub rest_slot : Option Units → ℕ → Option ℕ
rest_slot rest slot = option_map (λ _. slot) rest

-- ---- targets

abbrev pub name_target : Units → Target
name_target name = record { names = name ∷ []; alone = Some name; pattern = λ slot. just (pattern.Slot slot) }

-- §8.6.2, BindingPattern : ObjectBindingPattern
abbrev pub object_target : List Prop → Option Units → Target
object_target ps rest = record {
  names = prop_names ps ++ listed rest;
  alone = None;
  pattern = λ slot. of1 (λ xs. pattern.Properties xs (rest_slot rest (slot + length (prop_names ps)))) (properties_from ps slot);
}

-- §8.6.2, BindingPattern : ArrayBindingPattern
abbrev pub array_target : List Elem → Option Units → Target
array_target es rest = record {
  names = elem_names es ++ listed rest;
  alone = None;
  pattern = λ slot. of1 (λ xs. pattern.Elements xs (rest_slot rest (slot + length (elem_names es)))) (elements_from es slot);
}

-- a declaration of a name alone, whose initialiser takes the name (§14.3.1.2), or of a pattern (§14.3.3)
abbrev pub declared_as : Option Units → Target → Option Named → ℕ → Making Core
declared_as None t value slot = of2 forms.Bind (t.pattern slot) (or_undefined (unnamed value))
declared_as (Some name) t value slot = of1 (forms.Init slot) (or_undefined (option_map (λ f. f name) value))

abbrev pub elem_made : Target → Option Named → Elem
elem_made t default = record {
  names = t.names;
  element = λ slot. of2 element.Element (t.pattern slot) (maybe (unnamed default));
  declared = declared_as t.alone t default;
}

-- ---- properties

-- a name is the key of its property (§8.6.2, SingleNameBinding)
abbrev pub shorthand_made : Units → Option Named → Prop
shorthand_made name default = record {
  names = name ∷ [];
  property = λ slot. of2 (λ v x. property.Property v (element.Element (pattern.Slot slot) x)) (text_value name) (maybe (unnamed default));
}

-- the key of a property is written down
abbrev pub pair_made : Key → Elem → Prop
pair_made k e = record {
  names = e.names;
  property = λ slot. of2 property.Property k.value (e.element slot);
}

-- ---- parameters

abbrev pub rest_parameter : Option Target → ℕ → ℕ → Making (List Core)
rest_parameter None index slot = just []
rest_parameter (Some t) index slot = of1 (λ x. forms.RestParameter index x ∷ []) (t.pattern slot)

abbrev pub rest_names : Option Target → List Units
rest_names None = []
rest_names (Some t) = t.names

abbrev pub params_made : List Elem → Option Target → Params
params_made es rest = record {
  names = elem_names es ++ rest_names rest;
  bound = λ slot. of2 (λ xs ys. xs ++ ys) (parameters_from es 0 slot) (rest_parameter rest (length es) (slot + length (elem_names es)));
}
