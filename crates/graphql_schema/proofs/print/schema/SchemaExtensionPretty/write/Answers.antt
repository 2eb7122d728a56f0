use Rattle.std.proofs.Common.{true, false}
use Rattle.graphql_core.proofs.{and_last}
use Rattle.graphql_schema.specs.{schema_extension_view}
use Rattle.graphql_schema.proofs.{schema_extension_text}
use Rattle.graphql_schema.proofs.print.schema.SchemaExtensionPretty.write.Goals as goal

pub returns-then-not-has_operation-clause-text : goal.returns-then-not-has_operation-clause-text
returns-then-not-has_operation-clause-text g c =
    let more = g.met.S.Sink.took_more in
    let directives = rw c.deref.ensures.value at c.in_ok-write_directives.ensures.text in
    let written = more _ _ _ _ _ c.in_ok-push_str.ensures directives in
    and_last g.S.Sink.took more _ _ _ _ _ _ _ written c.push_str-then-not-has_operation.ensures
    (schema_extension_text c.args.style.now (schema_extension_view g.N.Names.bytes c.args.self.now) false c.if-not-has_operation.ensures)

pub returns-clause-text : goal.returns-clause-text
returns-clause-text g c =
    let more = g.met.S.Sink.took_more in
    let directives = rw c.deref.ensures.value at c.in_ok-write_directives.ensures.text in
    let written = more _ _ _ _ _ c.in_ok-push_str.ensures directives in
    and_last g.S.Sink.took more _ _ _ _ _ _ _ written c.write_roots.ensures
    (schema_extension_text c.args.style.now (schema_extension_view g.N.Names.bytes c.args.self.now) true c.if-not-has_operation.ensures)
