use Rattle.std.proofs.Common.{append_assoc}
use Rattle.graphql_query.proofs.layouts.LayoutTexts.{selection_set_parts}
use Rattle.graphql_json.proofs.{◌▹◌, then_last, text-node, later-append, later-nil}
use Rattle.graphql_json.proofs.query.write_short_query.Goals as goal

pub returns : goal.returns
returns g c =
    then_last _ _ _
    (c.in_ok-open_node.ensures ▹ c.in_ok-write_position.ensures ▹ c.in_ok-write_string.ensures ▹ c.in_ok-write_empty_list.ensures
    ▹ c.in_ok-write_empty_list-2.ensures ▹ c.in_ok-write_node.ensures) c.close_node.ensures
    (rw (selection_set_parts g.N.Names.bytes c.args.set.now) (simp (text-node, later-append, later-nil, append_assoc)))
