use Rattle.std.proofs.Common.{◌^◌, arith, option_map, string_bytes}
use Rattle.graphql_core.proofs.{and_last, both_fit}
use Rattle.graphql_schema.specs.{schema_view}
use Rattle.graphql_schema.proofs.{latter_fits, schema_text}
use Rattle.graphql_schema.proofs.print.schema.SchemaDefinitionPretty.write.Goals as goal

pub write_directives-requires : goal.write_directives-requires
write_directives-requires g c =
    let fits = latter_fits c.args._margin _ _ c.args.style.now.indent (2 ^ 32) c.requires in
    let (directives, braces) = both_fit _ _ _ _ fits in
    rw c.deref.ensures.value (omega (arith, directives))

pub returns-clause-text : goal.returns-clause-text
returns-clause-text g c =
    let more = g.met.S.Sink.took_more in
    let s = c.args.self.now in
    let directives = rw c.deref.ensures.value at c.in_ok-write_directives.ensures.text in
    let written = more _ _ _ _ _ (more _ _ _ _ _ c.in_ok-write_description.ensures c.in_ok-push_str.ensures) directives in
    and_last g.S.Sink.took more _ _ _ _ _ _ _ written c.write_roots.ensures
    (schema_text c.args.style.now (option_map string_bytes s.description) (schema_view g.N.Names.bytes s))
