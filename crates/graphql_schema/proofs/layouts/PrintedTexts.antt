-- Lists of trees and their models, and layouts in the order in which they are written.
use Rattle.std.proofs.Common.{◌≡◌, ◌<◌, ◌+◌, ◌*◌, ◌++◌, ◌∙◌, [], ◌∷◌, Option, Some, ap, sym, refl, codes, ℕ, List, length, get_or, drop, map, max}
use Rattle.std.proofs.Common.{append_assoc, arith, Bool, cond}
use Rattle.std.proofs.lemmas.List.{at_drop_more}
use Rattle.std.proofs.lemmas.List.Folds.{flat_map-map}
use Rattle.graphql_core.specs.{name_part, text_of, StyleOptions, spaces, Part, gap, in_braces, default_layout, most, type_layout, directives_layout}
use Rattle.graphql_core.specs.{most_enclosed}
use Rattle.std.specs.List.{flat_map}
use Rattle.graphql_core.proofs.{text_append, narrower, most_seen}
use Rattle.graphql_schema.specs.{InputValueTree, FieldTree, EnumValueTree, SchemaTree, BodyTree, DirectiveDefinitionTree, schema, schema_extension}
use Rattle.graphql_schema.specs.{has_operation, description_layout, inline_layout, between, later_names, joined_names, interfaces_layout, members_layout}
use Rattle.graphql_schema.specs.{locations_layout, input_value_layout, arguments_layout, input_field_layout, field_layout, enum_value_layout, block_layout}
use Rattle.graphql_schema.specs.{root_layout, roots_layout, repeatable_layout, keyword, interfaces, parts_layout, body_layout, directive_definition_layout}
use Rattle.graphql_schema.specs.{definition_layout}

-- ---- names

-- one more name, after a punctuator
next_name : (s one : List ℕ) (later : List Part) → text_of (between s ++ (name_part one ++ later)) ≡ (text_of (between s) ++ one) ++ text_of later
next_name s one later = simp (text_append, append_assoc)

-- the name at i, after a punctuator, and the names after it
pub name_here : {X : Type 0} (word : X → List ℕ) (s : List ℕ) (xs : List X) (i : ℕ) (x default : X) → i < length xs → x ≡ get_or xs i default
    → text_of (later_names s (map word (drop i xs))) ≡ (text_of (between s) ++ word x) ++ text_of (later_names s (map word (drop (i + 1) xs)))
name_here word s xs i x default h is = at_drop_more (λ ys. text_of (later_names s (map word ys))) xs i default h
    ∙ ap (λ y. text_of (later_names s (word y ∷ map word (drop (i + 1) xs)))) (sym is)
    ∙ next_name s (word x) (later_names s (map word (drop (i + 1) xs)))

-- interfaces and members, at least one of them
pub some_interfaces : {X : Type 0} (word : X → List ℕ) (xs : List X) → 0 < length xs
    → codes " implements " ++ text_of (joined_names (codes "&") (map word xs)) ≡ text_of (interfaces_layout (map word xs))
some_interfaces word [] h = absurd (omega arith)
some_interfaces word (x ∷ xs) h = refl

pub some_members : {X : Type 0} (word : X → List ℕ) (xs : List X) → 0 < length xs
    → text_of (between (codes "=")) ++ text_of (joined_names (codes "|") (map word xs)) ≡ text_of (members_layout (map word xs))
some_members word [] h = absurd (omega arith)
some_members word (x ∷ xs) h = refl

-- ---- layouts in the order in which they are written

pub root_text : (margin : ℕ) (word n : List ℕ)
    → (((spaces margin ++ word) ++ codes ": ") ++ n) ++ codes "\n" ≡ text_of (root_layout margin word (Some n))
root_text margin word n = simp (text_append, append_assoc)

pub input_value_text : (style : StyleOptions) (margin : ℕ) (v : InputValueTree)
    → ((((text_of (inline_layout style margin v.description) ++ v.name) ++ codes ": ")
    ++ text_of (type_layout v.value_type)) ++ text_of (default_layout style margin v.default_value)) ++ text_of (directives_layout style margin v.directives)
    ≡ text_of (input_value_layout style margin v)
input_value_text style margin v = simp (text_append, append_assoc)

pub field_text : (style : StyleOptions) (margin : ℕ) (f : FieldTree)
    → ((((((text_of (description_layout style margin f.description) ++ spaces margin) ++ f.name)
    ++ text_of (arguments_layout style margin f.arguments)) ++ codes ": ") ++ text_of (type_layout f.field_type))
    ++ text_of (directives_layout style margin f.directives)) ++ codes "\n" ≡ text_of (field_layout style margin f)
field_text style margin f = simp (text_append, append_assoc)

pub input_field_text : (style : StyleOptions) (margin : ℕ) (v : InputValueTree) → (spaces margin ++ text_of (input_value_layout style margin v)) ++ codes "\n"
    ≡ text_of (input_field_layout style margin v)
input_field_text style margin v = simp (text_append, append_assoc)

pub enum_value_text : (style : StyleOptions) (margin : ℕ) (v : EnumValueTree)
    → (((spaces margin ++ text_of (inline_layout style margin v.description)) ++ v.name)
    ++ text_of (directives_layout style margin v.directives)) ++ codes "\n" ≡ text_of (enum_value_layout style margin v)
enum_value_text style margin v = simp (text_append, append_assoc)

pub roots_text : (style : StyleOptions) (q m s : Option (List ℕ)) → (((codes " {\n" ++ text_of (root_layout style.indent (codes "query") q))
    ++ text_of (root_layout style.indent (codes "mutation") m)) ++ text_of (root_layout style.indent (codes "subscription") s)) ++ codes "}\n"
    ≡ text_of (roots_layout style q m s)
roots_text style q m s = simp (text_append, append_assoc)

pub schema_text : (style : StyleOptions) (d : Option (List ℕ)) (s : SchemaTree)
    → ((text_of (description_layout style 0 d) ++ codes "schema") ++ text_of (directives_layout style 0 s.directives))
    ++ text_of (roots_layout style s.query s.mutation s.subscription) ≡ text_of (definition_layout style (schema d s))
schema_text style d s = simp (text_append, append_assoc)

-- an extension of the schema, with or without operations
pub schema_extension_text : (style : StyleOptions) (s : SchemaTree) (b : Bool) → b ≡ has_operation s
    → (codes "extend schema" ++ text_of (directives_layout style 0 s.directives))
    ++ text_of (cond b (roots_layout style s.query s.mutation s.subscription) (gap (codes "\n"))) ≡ text_of (definition_layout style (schema_extension s))
schema_extension_text style s b is = rw (is) (simp (text_append, append_assoc))

pub directive_definition_text : (style : StyleOptions) (d : DirectiveDefinitionTree)
    → (((((text_of (description_layout style 0 d.description) ++ codes "directive @") ++ d.name) ++ text_of (arguments_layout style 0 d.arguments))
    ++ text_of (repeatable_layout d.repeatable)) ++ text_of (locations_layout d.locations)) ++ codes "\n" ≡ text_of (directive_definition_layout style d)
directive_definition_text style d = simp (text_append, append_assoc)

-- a type or a type extension
pub body_text : (style : StyleOptions) (b : BodyTree) → ((((keyword b.parts ++ codes " ") ++ b.name) ++ text_of (interfaces_layout (interfaces b.parts)))
    ++ text_of (directives_layout style 0 b.directives)) ++ text_of (parts_layout style b.parts) ≡ text_of (body_layout style b)
body_text style b = simp (text_append, append_assoc)

-- lines in braces, after a name
pub lines_text : (lines : List Part) → (codes " {\n" ++ text_of lines) ++ codes "}\n" ≡ text_of (gap (codes " ") ++ in_braces 0 lines)
lines_text lines = simp (text_append, append_assoc)

-- ---- trees in braces

-- at least one tree
pub filled_block : {A : Type 0} (margin : ℕ) (lines : A → List Part) (xs : List A) → 0 < length xs
    → gap (codes " ") ++ in_braces margin (flat_map lines xs) ≡ block_layout margin lines xs
filled_block margin lines [] h = absurd (omega arith)
filled_block margin lines (x ∷ xs) h = refl

-- ---- trees and their models

module _ {X T : Type 0} (view : X → T) where
  pub block_levels_seen : (f : T → ℕ) (xs : List X) → most_enclosed (λ x. f (view x)) xs ≡ most_enclosed f (map view xs)
  block_levels_seen f [] = refl
  block_levels_seen f (x ∷ xs) = ap (λ n. n + 1) (most_seen view f (x ∷ xs))

  pub block_seen : (margin : ℕ) (lines : T → List Part) (xs : List X) → block_layout margin (λ x. lines (view x)) xs ≡ block_layout margin lines (map view xs)
  block_seen margin lines [] = refl
  block_seen margin lines (x ∷ xs) = ap (λ ls. gap (codes " ") ++ in_braces margin ls) (sym (flat_map-map lines view (x ∷ xs)))

  -- the contents of the braces of a definition fit if the definition fits
  pub block_fits : (f : T → ℕ) (xs : List X) (margin indent width : ℕ) → margin + most_enclosed f (map view xs) * indent < width
      → 0 + most_enclosed (λ x. f (view x)) xs * indent < width
  block_fits f xs margin indent width fits = rw (block_levels_seen f xs) (omega (arith, fits))

  -- and they are what is written in the braces
  pub block_written : (lines : ℕ → T → List Part) (indent : ℕ) (xs : List X) → text_of (block_layout 0 (λ x. lines (0 + indent) (view x)) xs)
      ≡ text_of (block_layout 0 (lines indent) (map view xs))
  block_written lines indent xs =
      let none : 0 + indent ≡ indent = omega arith in
      ap (λ n. text_of (block_layout 0 (λ x. lines n (view x)) xs)) none ∙ ap text_of (block_seen 0 (lines indent) xs)

-- ---- levels

-- the lines in braces fit if the braces fit
pub lines_fit : {A : Type 0} (f : A → ℕ) (xs : List A) (indent width : ℕ) → 0 < length xs → most_enclosed f xs * indent < width
    → indent + most f xs * indent < width
lines_fit f [] indent width h fits = absurd (omega (arith, h))
lines_fit f (x ∷ xs) indent width h fits = omega (arith, fits)

-- the latter part fits if both parts do, at any margin
pub latter_fits : (margin a b indent width : ℕ) → margin + max a b * indent < width → b * indent < width
latter_fits margin a b indent width h = let parts = narrower margin a b indent width h in omega (arith, parts.1)
