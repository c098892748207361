-- Printed forms: what `console.log` writes of a value. `texts` are the texts by number, and `s` the objects.
use Rattle.std.specs.Prelude.{ℕ, zero, suc, Bool, true, false, not, ◌&&◌, nat_eq, List, [], ◌∷◌, ◌++◌, flat_map, codes, if◌then◌else◌}
use Rattle.std.specs.Fmt.{decimal, signed_decimal}
use Rattle.std.specs.Option.{option_map_or}
use Rattle.actx_value.specs.Texts.{text_at}
use Rattle.actx_value.specs.declared.ids.ObjId.{ObjId}
use Rattle.actx_value.specs.declared.value.Value.{Value}
use Rattle.actx_value.specs.declared.value.Value.TheVariants.{Undefined, Null, Bool as Truth, Num, Text, Object}
use Rattle.actx_objects.specs.declared.kind.Kind.{Kind}
use Rattle.actx_objects.specs.declared.kind.Kind.TheVariants.{Array, Function, Class, Native, Error, Map, Set}
use Rattle.actx_objects.specs.Objects.{ObjectStore, kind_of, size_of}
use Rattle.actx_table.specs.Table.{number_at}
use Rattle.actx_shown.specs.declared.items.Item.{Item}
use Rattle.actx_shown.specs.Items.{items_of}
use Rattle.actx_shown.specs.Kinds.{kind_word, is_container, is_callable}
use Rattle.actx_shown.specs.Quotes.{text_form}
use Rattle.actx_shown.specs.Reads.{read, text_read}

-- a word in square brackets, with a name behind it where there is one
abbrev pub behind : List ℕ → List ℕ → List ℕ
behind sign [] = []
behind sign (u ∷ name) = sign ++ u ∷ name

abbrev pub bracketed : List ℕ → List ℕ
bracketed text = codes "[" ++ text ++ codes "]"

-- the name of a function or of a class
abbrev pub name_of : List (List ℕ) → ObjectStore → ObjId → List ℕ
name_of texts s o = text_read texts s o (codes "name")

-- an error's name, or `Error` where it has none
abbrev pub error_name : List ℕ → List ℕ
error_name [] = codes "Error"
error_name (u ∷ name) = u ∷ name

abbrev pub error_form : List (List ℕ) → ObjectStore → ObjId → List ℕ
error_form texts s o = error_name (name_of texts s o) ++ behind (codes ": ") (text_read texts s o (codes "message"))

-- an object that is no container
abbrev pub lone_in : Kind → List (List ℕ) → ObjectStore → ObjId → List ℕ
lone_in Function texts s o = bracketed (kind_word Function ++ behind (codes ": ") (name_of texts s o))
lone_in Native texts s o = bracketed (kind_word Native ++ behind (codes ": ") (name_of texts s o))
lone_in Class texts s o = bracketed (kind_word Class ++ behind (codes " ") (name_of texts s o))
lone_in Error texts s o = error_form texts s o
lone_in kind texts s o = bracketed (kind_word kind)

abbrev pub lone_form : List (List ℕ) → ObjectStore → ObjId → List ℕ
lone_form texts s o = lone_in (kind_of s o) texts s o

-- whether this is the built-in function `Object`
unfoldable pub is_object_function : ObjId → Bool
is_object_function o = option_map_or (λ n. nat_eq o.0 n) (number_at (codes "Object")) false

-- the name of the function or class that reading `constructor` gives, other than the function `Object`
abbrev pub name_in : List (List ℕ) → ObjectStore → Value → List ℕ
name_in texts s (Object c) = if is_callable (kind_of s c) && not (is_object_function c) then name_of texts s c else []
name_in texts s v = []

abbrev pub class_name : List (List ℕ) → ObjectStore → ObjId → List ℕ
class_name texts s o = option_map_or (name_in texts s) (read texts s o (codes "constructor")) []

-- what stands before a sign, and a space
abbrev pub before : List ℕ → List ℕ → List ℕ
before [] sign = sign
before (u ∷ name) sign = (u ∷ name) ++ codes " " ++ sign

-- the front of a container, and its end
abbrev pub front_in : Kind → List (List ℕ) → ObjectStore → ObjId → List ℕ
front_in Array texts s o = codes "["
front_in Map texts s o = codes "Map(" ++ decimal (size_of s o) ++ codes ") {"
front_in Set texts s o = codes "Set(" ++ decimal (size_of s o) ++ codes ") {"
front_in kind texts s o = before (class_name texts s o) (codes "{")

abbrev pub end_in : Kind → List ℕ
end_in Array = codes "]"
end_in kind = codes "}"

-- one item, where `form` is the form of each value in it
abbrev pub item_form : (Value → List ℕ) → Item → List ℕ
item_form form item = item.label ++ form item.value ++ option_map_or (λ v. codes " => " ++ form v) item.under []

-- items after the first, each after a comma
abbrev pub further_form : (Value → List ℕ) → List Item → List ℕ
further_form form items = flat_map (λ item. codes ", " ++ item_form form item) items

-- the items of a container, between spaces and with commas
abbrev pub items_form : (Value → List ℕ) → List Item → List ℕ
items_form form [] = []
items_form form (item ∷ items) = codes " " ++ item_form form item ++ further_form form items ++ codes " "

-- a container, where `form` is the form of each value in it
abbrev pub container_form : (Value → List ℕ) → List (List ℕ) → ObjectStore → ObjId → List ℕ
container_form form texts s o = front_in (kind_of s o) texts s o ++ items_form form (items_of texts s o) ++ end_in (kind_of s o)

-- a value that is neither a text nor an object; no program holds a scope or a mark
abbrev pub primitive_form : Value → List ℕ
primitive_form Undefined = codes "undefined"
primitive_form Null = codes "null"
primitive_form (Truth true) = codes "true"
primitive_form (Truth false) = codes "false"
primitive_form (Num n) = signed_decimal n
primitive_form v = []

-- a value, where `container` is the form of each container
abbrev pub form_with : (ObjId → List ℕ) → List (List ℕ) → ObjectStore → Value → List ℕ
form_with container texts s (Text t) = text_form (text_at texts t.0)
form_with container texts s (Object o) = if is_container (kind_of s o) then container o else lone_form texts s o
form_with container texts s v = primitive_form v

-- a container of which so many levels show what stands in them; one below those shows its kind alone
abbrev pub container_at : ℕ → List (List ℕ) → ObjectStore → ObjId → List ℕ
container_at zero texts s o = bracketed (kind_word (kind_of s o))
container_at (suc levels) texts s o = container_form (form_with (container_at levels texts s) texts s) texts s o

-- a value, with so many levels of containers
abbrev pub form : ℕ → List (List ℕ) → ObjectStore → Value → List ℕ
form levels texts s v = form_with (container_at levels texts s) texts s v

-- an argument of `console.log`: a text as it is, and any other value with three levels of containers
abbrev pub shown : List (List ℕ) → ObjectStore → Value → List ℕ
shown texts s (Text t) = text_at texts t.0
shown texts s v = form 3 texts s v

-- arguments after the first one, each after a space
abbrev pub more_shown : List (List ℕ) → ObjectStore → List Value → List ℕ
more_shown texts s vs = flat_map (λ v. codes " " ++ shown texts s v) vs

-- the line of `console.log`: its arguments with a space between each two
abbrev pub line : List (List ℕ) → ObjectStore → List Value → List ℕ
line texts s [] = []
line texts s (v ∷ vs) = shown texts s v ++ more_shown texts s vs
