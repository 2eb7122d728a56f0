-- The models of references to the parts of a type.
use Rattle.std.specs.Prelude.{ℕ, List, map, option_map, string_bytes}
use Rattle.graphql_schema.specs.Tree.{PartsTree, scalar, union, BodyTree, DefinitionTree, type_definition, extension}
use Rattle.graphql_schema.specs.Views.{body_view, object_parts, interface_parts, enum_parts, input_parts}
use Rattle.graphql_schema.specs.declared.print.body.Body.{Body}
use Rattle.graphql_schema.specs.declared.print.body.Outline.{Outline}
use Rattle.graphql_schema.specs.declared.print.parts.Parts.{Parts}
use Rattle.graphql_schema.specs.declared.print.body.Outline.TheVariants as outlines
use Rattle.graphql_schema.specs.declared.print.parts.Parts.TheVariants as parts

module _ {N T : Type 0} (bytes : T → List ℕ) where
  abbrev pub parts_seen : Parts N T → PartsTree
  parts_seen parts.Scalar = scalar
  parts_seen (parts.Object is fs) = object_parts bytes is.now fs.now
  parts_seen (parts.Interface is fs) = interface_parts bytes is.now fs.now
  parts_seen (parts.Union ts) = union (map bytes ts.now)
  parts_seen (parts.Enum vs) = enum_parts bytes vs.now
  parts_seen (parts.InputObject fs) = input_parts bytes fs.now

  abbrev pub body_seen : Body N T → BodyTree
  body_seen b = body_view bytes b.position b.name.now b.directives.now (parts_seen b.parts)

  abbrev pub outline_seen : Outline N T → DefinitionTree
  outline_seen (outlines.Definition d b) = type_definition (option_map string_bytes d.now) (body_seen b)
  outline_seen (outlines.Extension b) = extension (body_seen b)
