-- The bracket depth of a document is the bracket depth of its layout.
use Rattle.std.proofs.Common.{◌≡◌, ℕ, max, cond, Bool, true, false, List, [], ◌∷◌, Option, Some, None, codes, map, refl, arith}
use Rattle.graphql_core.specs.{bracket_of, Part, gap, StyleOptions, most_enclosed, most}
use Rattle.graphql_core.specs.declared.tokenizer.piece.Nesting.TheVariants.{Unchanged}
use Rattle.graphql_core.specs.declared.tokenizer.token.Kind.TheVariants.{Punctuator}
use Rattle.graphql_core.proofs.{Rises, rises_as, none_rise, flat_rise, gap_rises, level_rises, both_rise, string_rises, type_rises, directives_rise}
use Rattle.graphql_core.proofs.{braces_rise, line_end_rises, default_rises, lines_rise, separated_rise, in_parentheses_rise}
use Rattle.graphql_schema.specs.declared.location.DirectiveLocation.{DirectiveLocation}
use Rattle.graphql_schema.specs.{description_layout, inline_layout, later_names, joined_names, interfaces_layout, members_layout, locations_layout}
use Rattle.graphql_schema.specs.{block_layout, input_value_layout, arguments_layout, input_field_layout, field_layout, enum_value_layout, root_layout}
use Rattle.graphql_schema.specs.{roots_layout, interfaces, parts_layout, body_layout, repeatable_layout, definition_layout, document_layout, word_of}
use Rattle.graphql_schema.specs.{input_value_brackets, field_brackets, enum_value_brackets, parts_brackets, body_brackets, definition_brackets, InputValueTree}
use Rattle.graphql_schema.specs.{FieldTree, EnumValueTree, PartsTree, scalar, object, interface, union, enum, input, BodyTree, DefinitionTree, schema}
use Rattle.graphql_schema.specs.{type_definition, extension, schema_extension, directive, DocumentTree, has_operation}

-- ---- parts in braces

block_rises : {A : Type 0} (lines : A → List Part) (brackets : A → ℕ) → ((x : A) → Rises (brackets x) (lines x)) → (margin : ℕ) (xs : List A)
    → Rises (most_enclosed brackets xs) (block_layout margin lines xs)
block_rises lines brackets rise margin [] = gap_rises _ none_rise
block_rises lines brackets rise margin (x ∷ xs) = gap_rises _ (braces_rise margin (lines_rise lines brackets rise (x ∷ xs)))

-- ---- descriptions and names

description_rises : (style : StyleOptions) (margin : ℕ) (t : Option (List ℕ)) → Rises 0 (description_layout style margin t)
description_rises style margin None = none_rise
description_rises style margin (Some text) = gap_rises _ (line_end_rises _ (string_rises style margin text))

inline_rises : (style : StyleOptions) (margin : ℕ) (t : Option (List ℕ)) → Rises 0 (inline_layout style margin t)
inline_rises style margin None = none_rise
inline_rises style margin (Some text) = line_end_rises _ (string_rises style margin text)

later_names_rise : (s : List ℕ) → bracket_of Punctuator s ≡ Unchanged → (ns : List (List ℕ)) → Rises 0 (later_names s ns)
later_names_rise s flat [] = none_rise
later_names_rise s flat (n ∷ ns) = gap_rises _ (level_rises flat (gap_rises _ (level_rises refl (later_names_rise s flat ns))))

joined_rise : (s : List ℕ) → bracket_of Punctuator s ≡ Unchanged → (ns : List (List ℕ)) → Rises 0 (joined_names s ns)
joined_rise s flat [] = none_rise
joined_rise s flat (n ∷ ns) = level_rises refl (later_names_rise s flat ns)

interfaces_rise : (ns : List (List ℕ)) → Rises 0 (interfaces_layout ns)
interfaces_rise [] = none_rise
interfaces_rise (n ∷ ns) = gap_rises _ (level_rises refl (gap_rises _ (joined_rise (codes "&") refl (n ∷ ns))))

members_rise : (ns : List (List ℕ)) → Rises 0 (members_layout ns)
members_rise [] = none_rise
members_rise (n ∷ ns) = gap_rises _ (level_rises refl (gap_rises _ (joined_rise (codes "|") refl (n ∷ ns))))

locations_rise : (ls : List DirectiveLocation) → Rises 0 (locations_layout ls)
locations_rise [] = none_rise
locations_rise (l ∷ ls) = gap_rises _ (level_rises refl (gap_rises _ (joined_rise (codes "|") refl (map word_of (l ∷ ls)))))

-- ---- arguments, fields and values

module _ (style : StyleOptions) where
  input_value_rises : (margin : ℕ) (v : InputValueTree) → Rises (input_value_brackets v) (input_value_layout style margin v)
  input_value_rises margin v =
      both_rise (inline_rises style margin v.description) (level_rises refl (level_rises refl (gap_rises _ (both_rise (type_rises v.value_type)
      (both_rise (default_rises style margin v.default_value) (directives_rise style margin v.directives))))))

  arguments_rise : (margin : ℕ) (vs : List InputValueTree) → Rises (most_enclosed input_value_brackets vs) (arguments_layout style margin vs)
  arguments_rise margin = in_parentheses_rise (input_value_layout style margin) input_value_brackets (input_value_rises margin)

  input_field_rises : (margin : ℕ) (v : InputValueTree) → Rises (input_value_brackets v) (input_field_layout style margin v)
  input_field_rises margin v = gap_rises _ (line_end_rises _ (input_value_rises margin v))

  field_rises : (margin : ℕ) (f : FieldTree) → Rises (field_brackets f) (field_layout style margin f)
  field_rises margin f =
      both_rise (description_rises style margin f.description) (gap_rises _ (level_rises refl (both_rise (arguments_rise margin f.arguments)
      (level_rises refl (gap_rises _ (both_rise (type_rises f.field_type) (line_end_rises _ (directives_rise style margin f.directives))))))))

  enum_value_rises : (margin : ℕ) (v : EnumValueTree) → Rises (enum_value_brackets v) (enum_value_layout style margin v)
  enum_value_rises margin v =
      gap_rises _ (both_rise (inline_rises style margin v.description)
      (level_rises refl (line_end_rises _ (directives_rise style margin v.directives))))

  -- ---- definitions

  root_rises : (margin : ℕ) (w : List ℕ) (n : Option (List ℕ)) → Rises 0 (root_layout margin w n)
  root_rises margin w None = none_rise
  root_rises margin w (Some n) = gap_rises _ (level_rises refl (level_rises refl (gap_rises _ (level_rises refl (gap_rises _ none_rise)))))

  roots_rise : (q m s : Option (List ℕ)) → Rises 1 (roots_layout style q m s)
  roots_rise q m s =
      gap_rises _ (braces_rise 0 (flat_rise (root_rises style.indent _ q) (flat_rise (root_rises style.indent _ m) (root_rises style.indent _ s))))

  -- the braces of an extension, if it names an operation
  operations_rise : (b : Bool) (q m s : Option (List ℕ)) → Rises (cond b 1 0) (cond b (roots_layout style q m s) (gap (codes "\n")))
  operations_rise true q m s = roots_rise q m s
  operations_rise false q m s = gap_rises _ none_rise

  parts_rise : (p : PartsTree) → Rises (parts_brackets p) (parts_layout style p)
  parts_rise scalar = gap_rises _ none_rise
  parts_rise (object is fs) = block_rises (field_layout style style.indent) field_brackets (field_rises style.indent) 0 fs
  parts_rise (interface is fs) = block_rises (field_layout style style.indent) field_brackets (field_rises style.indent) 0 fs
  parts_rise (union ts) = line_end_rises _ (members_rise ts)
  parts_rise (enum vs) = block_rises (enum_value_layout style style.indent) enum_value_brackets (enum_value_rises style.indent) 0 vs
  parts_rise (input fs) = block_rises (input_field_layout style style.indent) input_value_brackets (input_field_rises style.indent) 0 fs

  body_rises : (b : BodyTree) → Rises (body_brackets b) (body_layout style b)
  body_rises b =
      level_rises refl (gap_rises _ (level_rises refl (flat_rise (interfaces_rise (interfaces b.parts))
      (both_rise (directives_rise style 0 b.directives) (parts_rise b.parts)))))

  repeatable_rises : (b : Bool) → Rises 0 (repeatable_layout b)
  repeatable_rises false = none_rise
  repeatable_rises true = gap_rises _ (level_rises refl none_rise)

  definition_rises : (t : DefinitionTree) → Rises (definition_brackets t) (definition_layout style t)
  definition_rises (schema t s) =
      both_rise (description_rises style 0 t) (level_rises refl (both_rise (directives_rise style 0 s.directives)
      (roots_rise s.query s.mutation s.subscription)))
  definition_rises (type_definition t b) = both_rise (description_rises style 0 t) (body_rises b)
  definition_rises (extension b) = level_rises refl (gap_rises _ (body_rises b))
  definition_rises (schema_extension s) =
      level_rises refl (gap_rises _ (level_rises refl (both_rise (directives_rise style 0 s.directives)
      (operations_rise (has_operation s) s.query s.mutation s.subscription))))
  definition_rises (directive t) =
      let n = most_enclosed input_value_brackets t.arguments in
      both_rise (description_rises style 0 t.description) (level_rises refl (gap_rises _ (level_rises refl (level_rises refl
      (rises_as {m = max n 0} {n = n} (omega arith) (both_rise (arguments_rise 0 t.arguments)
      (flat_rise (repeatable_rises t.repeatable) (line_end_rises _ (locations_rise t.locations)))))))))

  pub document_rises : (d : DocumentTree) → Rises (most definition_brackets d) (document_layout style d)
  document_rises = separated_rise (definition_layout style) definition_brackets definition_rises
