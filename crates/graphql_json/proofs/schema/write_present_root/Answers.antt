use Rattle.std.proofs.Common.{refl}
use Rattle.graphql_json.proofs.{next_element}
use Rattle.graphql_json.proofs.schema.write_present_root.Goals as goal

pub returns : goal.returns
returns c others = next_element c.args.is_later _ others _ _ _ _ c.in_ok-write_separator.ensures.grown c.in_ok-write_root_node.ensures.grown refl
