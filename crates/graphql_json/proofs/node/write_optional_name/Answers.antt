use Rattle.std.proofs.Common.{sym, append-nil}
use Rattle.graphql_json.specs.{later}
use Rattle.graphql_json.specs.Json.{members_text}
use Rattle.graphql_json.proofs.node.write_optional_name.Goals as goal

pub returns-in-None : goal.returns-in-None
unfolding later members_text
returns-in-None g c = record { grown = rw c.in-None.is (sym (append-nil c.args.out.now)) }
