use Rattle.std.proofs.Common.{◌∙◌, sym, refl}
use Rattle.graphql_core.proofs.{and_last, some_items}
use Rattle.graphql_schema.proofs.{some_interfaces}
use Rattle.graphql_schema.proofs.print.names.write_interfaces.Goals as goal

pub returns : goal.returns
returns g c =
    let some = some_items _ c.args.interfaces.now refl (sym c.is_empty.ensures ∙ c.if-is_empty.false) in
    and_last g.S.Sink.took g.met.S.Sink.took_more _ _ _ _ _ _ _ c.in_ok-push_str.ensures c.write_joined_names.ensures
    (some_interfaces g.N.Names.bytes c.args.interfaces.now some)
