use Rattle.std.proofs.Common.{option_map}
use Rattle.graphql_core.proofs.{and_last}
use Rattle.graphql_schema.proofs.{roots_text}
use Rattle.graphql_schema.proofs.print.schema.write_roots.Goals as goal

pub returns : goal.returns
returns g c =
    let more = g.met.S.Sink.took_more in
    let bytes = g.N.Names.bytes in
    let query = rw c.indentation-inside.ensures at c.in_ok-write_root.ensures in
    let mutation = rw c.indentation-inside.ensures at c.in_ok-write_root-2.ensures in
    let subscription = rw c.indentation-inside.ensures at c.in_ok-write_root-3.ensures in
    let written = more _ _ _ _ _ (more _ _ _ _ _ (more _ _ _ _ _ c.in_ok-push_str.ensures query) mutation) subscription in
    and_last g.S.Sink.took more _ _ _ _ _ _ _ written c.push_str-2.ensures
    (roots_text c.args.style.now (option_map bytes c.args.query.now) (option_map bytes c.args.mutation.now) (option_map bytes c.args.subscription.now))
