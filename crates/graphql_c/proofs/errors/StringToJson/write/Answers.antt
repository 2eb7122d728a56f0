use Rattle.std.proofs.Common.{rules, ◌≡◌, string_bytes}
use Rattle.graphql_json.specs.Json.{json_text}
use Rattle.graphql_c.proofs.errors.StringToJson.write.Goals as goal

pub returns : goal.returns
unfolding json_text
returns c =
    let same : c.deref.result.now ≡ string_bytes c.args.self.now = search rules in
    rw same at c.write_quoted.ensures
