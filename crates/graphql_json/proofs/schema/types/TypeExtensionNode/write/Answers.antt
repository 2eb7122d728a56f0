use Rattle.std.proofs.Common.{codes, None}
use Rattle.graphql_core.specs.{place_of, directives_view}
use Rattle.graphql_schema.specs.Views.{enum_value_view, input_value_view}
use Rattle.graphql_json.specs.{directives_json}
use Rattle.graphql_json.specs.Schema.{enum_value_json, input_value_json}
use Rattle.graphql_json.proofs.{then_last, last_viewed}
use Rattle.graphql_json.proofs.Types.{type_end}
use Rattle.graphql_json.proofs.schema.types.TypeExtensionNode.write.Goals as goal

pub returns-in_ok-open_described-in-Scalar : goal.returns-in_ok-open_described-in-Scalar
returns-in_ok-open_described-in-Scalar g c =
    let of = c.in-Scalar.of in
    let bytes = g.N.Names.bytes in
    let parts = rw c.deref.ensures.value at c.write_scalar.ensures in
    then_last _ _ _ c.in_ok-open_described-in-Scalar.ensures parts
    (rw (c.in-Scalar.is, c.view.ensures)
    (type_end _ (place_of of.position) None (bytes of.name) _))

pub returns-in_ok-open_described-in-Object : goal.returns-in_ok-open_described-in-Object
returns-in_ok-open_described-in-Object g c =
    let of = c.in-Object.of in
    let bytes = g.N.Names.bytes in
    let parts = rw (
      c.deref-in-Object.ensures.value,
      c.deref-in-Object-2.ensures.value,
      c.deref-in-Object-3.ensures.value,
    ) at c.write_fielded.ensures in
    then_last _ _ _ c.in_ok-open_described-in-Object.ensures parts
    (rw (c.in-Object.is, c.view-in-Object.ensures)
    (type_end _ (place_of of.position) None (bytes of.name) _))

pub returns-in_ok-open_described-in-Interface : goal.returns-in_ok-open_described-in-Interface
returns-in_ok-open_described-in-Interface g c =
    let of = c.in-Interface.of in
    let bytes = g.N.Names.bytes in
    let parts = rw (
      c.deref-in-Interface.ensures.value,
      c.deref-in-Interface-2.ensures.value,
      c.deref-in-Interface-3.ensures.value,
    ) at c.write_fielded-in-Interface.ensures in
    then_last _ _ _ c.in_ok-open_described-in-Interface.ensures parts
    (rw (c.in-Interface.is, c.view-in-Interface.ensures)
    (type_end _ (place_of of.position) None (bytes of.name) _))

pub returns-in_ok-open_described-in-Union : goal.returns-in_ok-open_described-in-Union
returns-in_ok-open_described-in-Union g c =
    let of = c.in-Union.of in
    let bytes = g.N.Names.bytes in
    let parts = rw (c.deref-in-Union.ensures.value, c.deref-in-Union-2.ensures.value) at c.write_union.ensures in
    then_last _ _ _ c.in_ok-open_described-in-Union.ensures parts
    (rw (c.in-Union.is, c.view-in-Union.ensures)
    (type_end _ (place_of of.position) None (bytes of.name) _))

pub returns-in_ok-open_described-in-Enum : goal.returns-in_ok-open_described-in-Enum
returns-in_ok-open_described-in-Enum g c =
    let of = c.in-Enum.of in
    let bytes = g.N.Names.bytes in
    let parts = last_viewed enum_value_json (enum_value_view bytes) (codes "values")
    c.write_parts.result (directives_json (directives_view bytes of.directives.items)) of.values.items _ _
    (rw (c.deref-in-Enum.ensures.value, c.deref-in-Enum-2.ensures.value)
    at c.write_parts.ensures) in
    then_last _ _ _ c.in_ok-open_described-in-Enum.ensures parts
    (rw (c.in-Enum.is, c.view-in-Enum.ensures)
    (type_end _ (place_of of.position) None (bytes of.name) _))

pub returns-in_ok-open_described-in-InputObject : goal.returns-in_ok-open_described-in-InputObject
returns-in_ok-open_described-in-InputObject g c =
    let of = c.in-InputObject.of in
    let bytes = g.N.Names.bytes in
    let parts = last_viewed input_value_json (input_value_view bytes) (codes "fields")
    c.write_parts-in-InputObject.result (directives_json (directives_view bytes of.directives.items))
    of.fields.items _ _
    (rw (c.deref-in-InputObject.ensures.value, c.deref-in-InputObject-2.ensures.value)
    at c.write_parts-in-InputObject.ensures) in
    then_last _ _ _ c.in_ok-open_described-in-InputObject.ensures parts
    (rw (c.in-InputObject.is, c.view-in-InputObject.ensures)
    (type_end _ (place_of of.position) None (bytes of.name) _))
