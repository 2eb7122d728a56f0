use Rattle.std.proofs.Common.{◌++◌, codes, append_assoc}
use Rattle.std.specs.List.{flat_map}
use Rattle.graphql_core.specs.{spaces, block_line, lines_of}
use Rattle.graphql_core.proofs.{and_last}
use Rattle.graphql_core.proofs.format.print.block.write_block.Goals as goal

pub returns : goal.returns
returns g c =
    let more = g.met.S.Sink.took_more in
    and_last g.S.Sink.took more _ _ _ _ _ _ _
    (more _ _ _ _ _ (more _ _ _ _ _ c.in_ok-push_str.ensures c.in_ok-write_block_lines.ensures) c.in_ok-write_spaces.ensures) c.push_str-2.ensures
    (append_assoc (codes "\"\"\"\n" ++ flat_map (block_line c.args.inside) (lines_of c.args.text.now)) (spaces c.args.margin) (codes "\"\"\""))
