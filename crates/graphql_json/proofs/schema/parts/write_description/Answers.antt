use Rattle.std.proofs.Common.{sym, append-nil}
use Rattle.graphql_json.specs.steps.{later}
use Rattle.graphql_json.specs.Json.{members_text}
use Rattle.graphql_json.proofs.schema.parts.write_description.Goals as goal

pub returns-in-None : goal.returns-in-None
unfolding later members_text
returns-in-None c = record { grown = rw c.in-None.is (sym (append-nil c.args.out.now)) }
