-- If arguments are on one line, a document opens at most two levels: a block, and in it a block string.
use Rattle.std.proofs.Common.{◌≡◌, ◌≤◌, ◌+◌, ℕ, cond, Bool, true, false, List, [], ◌∷◌, Option, Some, None, Result, Ok, Err, OnOk, arith, refl}
use Rattle.std.proofs.Math.Nat.{mul-le-mul_left}
use Rattle.graphql_core.specs.{StyleOptions, default_style, IsNarrow, description_levels, most_enclosed}
use Rattle.graphql_core.proofs.{most_bounded, string_bounded, default_bounded, directives_bounded}
use Rattle.graphql_schema.specs.{input_value_levels, field_levels, enum_value_levels, parts_levels, body_levels, definition_levels, levels, IsTooWide}
use Rattle.graphql_schema.specs.{InputValueTree, FieldTree, EnumValueTree, PartsTree, BodyTree, DefinitionTree, DocumentTree}
use Rattle.graphql_core.specs.layouts.ValueLayout as values
use Rattle.graphql_schema.specs.Tree as trees

-- ---- lists of trees

block_bounded : {A : Type 0} (f : A → ℕ) (bound : ℕ) → ((x : A) → f x ≤ bound) → (xs : List A) → most_enclosed f xs ≤ bound + 1
block_bounded f bound each [] = omega arith
block_bounded f bound each (x ∷ xs) = let all = most_bounded f bound each (x ∷ xs) in omega (arith, all)

description_bounded : (text : Option (List ℕ)) → description_levels text ≤ 1
description_bounded None = omega arith
description_bounded (Some text) = string_bounded text

one_or_none : (b : Bool) → cond b 1 0 ≤ 1
one_or_none true = omega arith
one_or_none false = omega arith

module _ (style : StyleOptions) (one_line : style.multiline ≡ false) where
  -- ---- parts of definitions

  input_value_bounded : (v : InputValueTree) → input_value_levels style v ≤ 1
  input_value_bounded v =
      let above = description_bounded v.description in
      let given = default_bounded style one_line v.default_value in
      let directives = directives_bounded style one_line v.directives in
      omega (arith, above, given, directives)

  field_bounded : (f : FieldTree) → field_levels style f ≤ 1
  field_bounded f =
      let arguments = most_bounded (input_value_levels style) 1 input_value_bounded f.arguments in
      let above = description_bounded f.description in
      let directives = directives_bounded style one_line f.directives in
      omega (arith, above, arguments, directives)

  enum_value_bounded : (v : EnumValueTree) → enum_value_levels style v ≤ 1
  enum_value_bounded v =
      let above = description_bounded v.description in
      let directives = directives_bounded style one_line v.directives in
      omega (arith, above, directives)

  parts_bounded : (p : PartsTree) → parts_levels style p ≤ 2
  parts_bounded trees.scalar = omega arith
  parts_bounded (trees.object is fs) = block_bounded (field_levels style) 1 field_bounded fs
  parts_bounded (trees.interface is fs) = block_bounded (field_levels style) 1 field_bounded fs
  parts_bounded (trees.union ts) = omega arith
  parts_bounded (trees.enum vs) = block_bounded (enum_value_levels style) 1 enum_value_bounded vs
  parts_bounded (trees.input fs) = block_bounded (input_value_levels style) 1 input_value_bounded fs

  body_bounded : (b : BodyTree) → body_levels style b ≤ 2
  body_bounded b = let directives = directives_bounded style one_line b.directives in let parts = parts_bounded b.parts in omega (arith, directives, parts)

  -- ---- definitions

  definition_bounded : (t : DefinitionTree) → definition_levels style t ≤ 2
  definition_bounded (trees.schema d s) =
      let above = description_bounded d in
      let directives = directives_bounded style one_line s.directives in
      omega (arith, above, directives)
  definition_bounded (trees.type_definition d b) = let above = description_bounded d in let body = body_bounded b in omega (arith, above, body)
  definition_bounded (trees.extension b) = body_bounded b
  definition_bounded (trees.schema_extension s) =
      let directives = directives_bounded style one_line s.directives in
      let operations = one_or_none (trees.has_operation s) in
      omega (arith, directives, operations)
  definition_bounded (trees.directive d) =
      let arguments = most_bounded (input_value_levels style) 1 input_value_bounded d.arguments in
      let above = description_bounded d.description in
      omega (arith, above, arguments)

  pub levels_bounded : (d : DocumentTree) → levels style d ≤ 2
  levels_bounded = most_bounded (definition_levels style) 2 definition_bounded

  -- if two levels are not too wide, no document is
  pub never_too_wide : (values.IsTooWide style 2 → ⊥) → (d : DocumentTree) → IsTooWide style d → ⊥
  never_too_wide narrow d wide =
      let most = mul-le-mul_left {m = levels style d} {n = 2} style.indent (levels_bounded d) in
      narrow (omega (arith, most, wide))

-- nothing is too wide in the default style
pub narrow_by_default : {A E : Type 0} (r : Result A E) (d : DocumentTree) → OnOk r (IsNarrow (levels default_style d))
narrow_by_default (Ok x) d = never_too_wide default_style refl (λ wide. omega (arith, wide)) d
narrow_by_default (Err e) d = tt
