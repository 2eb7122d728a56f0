use Rattle.std.proofs.Common.{◌^◌, codes, inl, inr, map, sym}
use Rattle.graphql_core.specs.{gap}
use Rattle.std.proofs.lemmas.Result.{on_ok_weaker}
use Rattle.graphql_core.proofs.{and_alone, and_last, text_append, all_seen}
use Rattle.graphql_schema.specs.{IsWellFormedField, IsWellFormedEnumValue, members_layout, field_layout, field_levels}
use Rattle.graphql_schema.specs.{enum_value_layout, enum_value_levels, field_view, enum_value_view}
use Rattle.graphql_schema.proofs.{block_fits, block_written}
use Rattle.graphql_schema.proofs.print.parts.PartsPretty.write.Goals as goal

-- ---- of an object type or an interface

pub write_block-requires-in-Object : goal.write_block-requires-in-Object
write_block-requires-in-Object g c =
    let style = c.args.style.now in
    let fits = block_fits (field_view g.N.Names.bytes) (field_levels style) c.in-Object.fields.now c.args._margin style.indent (2 ^ 32) in
    elim c.in-Object.is [ inl e ↦ fits (rw e.1 at c.requires) | inr e ↦ fits (rw e.1 at c.requires) ]

pub returns-in-Object-clause-text : goal.returns-in-Object-clause-text
returns-in-Object-clause-text g c =
    let style = c.args.style.now in
    let text = block_written (field_view g.N.Names.bytes) (field_layout style) style.indent c.in-Object.fields.now in
    let written = and_alone g.S.Sink.took g.met.S.Sink.took_more _ _ _ _ _ c.write_block-in-Object.ensures.text text in
    elim c.in-Object.is [ inl e ↦ rw e.1 written | inr e ↦ rw e.1 written ]

pub returns-in-Object-clause-well_formed : goal.returns-in-Object-clause-well_formed
returns-in-Object-clause-well_formed g c =
    let each = all_seen (field_view g.N.Names.bytes) IsWellFormedField c.in-Object.fields.now in
    let well_formed = on_ok_weaker c.write_block-in-Object.result each c.write_block-in-Object.ensures.well_formed in
    elim c.in-Object.is [ inl e ↦ rw e.1 well_formed | inr e ↦ rw e.1 well_formed ]

-- ---- of a union

pub returns-in_ok-write_members-in-Union-clause-text : goal.returns-in_ok-write_members-in-Union-clause-text
returns-in_ok-write_members-in-Union-clause-text g c =
    let text = sym (text_append (members_layout (map g.N.Names.bytes c.in-Union.types.now)) (gap (codes "\n"))) in
    rw c.in-Union.is
    (and_last g.S.Sink.took g.met.S.Sink.took_more _ _ _ _ _ _ _ c.in_ok-write_members-in-Union.ensures c.push_str-in-Union.ensures text)

-- ---- of an enum

pub write_block-requires : goal.write_block-requires
write_block-requires g c =
    let style = c.args.style.now in
    let fits = block_fits (enum_value_view g.N.Names.bytes) (enum_value_levels style) c.in-Enum.values.now c.args._margin style.indent (2 ^ 32) in
    fits (rw c.in-Enum.is at c.requires)

pub returns-in-Enum-clause-text : goal.returns-in-Enum-clause-text
returns-in-Enum-clause-text g c =
    let style = c.args.style.now in
    let text = block_written (enum_value_view g.N.Names.bytes) (enum_value_layout style) style.indent c.in-Enum.values.now in
    rw c.in-Enum.is (and_alone g.S.Sink.took g.met.S.Sink.took_more _ _ _ _ _ c.write_block.ensures.text text)

pub returns-in-Enum-clause-well_formed : goal.returns-in-Enum-clause-well_formed
returns-in-Enum-clause-well_formed g c =
    let each = all_seen (enum_value_view g.N.Names.bytes) IsWellFormedEnumValue c.in-Enum.values.now in
    rw c.in-Enum.is (on_ok_weaker c.write_block.result each c.write_block.ensures.well_formed)
