use Rattle.std.proofs.Common.{inl, inr}
use Rattle.graphql_schema.specs.{field_levels, enum_value_levels, input_value_levels, field_view, enum_value_view, input_value_view}
use Rattle.graphql_schema.proofs.{block_levels_seen}
use Rattle.graphql_schema.proofs.print.parts.PartsPretty.levels.Goals as goal

pub returns-in-Object : goal.returns-in-Object
returns-in-Object g c =
    let seen = block_levels_seen (field_view g.N.Names.bytes) (field_levels c.args.style.now) c.in-Object.fields.now in
    elim c.in-Object.is [
      | inl e ↦ rw (e.1, ← seen) c.levels_in_block-in-Object.ensures
      | inr e ↦ rw (e.1, ← seen) c.levels_in_block-in-Object.ensures
    ]

pub returns-in-Enum : goal.returns-in-Enum
returns-in-Enum g c =
    let seen = block_levels_seen (enum_value_view g.N.Names.bytes) (enum_value_levels c.args.style.now) c.in-Enum.values.now in
    rw (c.in-Enum.is, ← seen) c.levels_in_block.ensures

pub returns-in-InputObject : goal.returns-in-InputObject
returns-in-InputObject g c =
    let seen = block_levels_seen (input_value_view g.N.Names.bytes) (input_value_levels c.args.style.now) c.in-InputObject.fields.now in
    rw (c.in-InputObject.is, ← seen) c.levels_in_block-in-InputObject.ensures
