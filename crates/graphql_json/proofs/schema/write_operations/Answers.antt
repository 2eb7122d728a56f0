use Rattle.std.proofs.Common.{false, ◌∙◌, append_assoc, option_map, codes}
use Rattle.graphql_json.specs.Json.{elements_text}
use Rattle.graphql_json.specs.Schema.{root_before}
use Rattle.graphql_json.proofs.{◌▹◌, then_last, appended, no_elements_left, later-append, later-one, text-array}
use Rattle.graphql_json.specs.Json as json
use Rattle.graphql_json.proofs.schema.write_operations.Goals as goal

pub returns : goal.returns
returns g c =
    let bytes = g.N.Names.bytes in
    let last = root_before (codes "subscription") (option_map bytes c.args.subscription.now) json.no_elements in
    let others = root_before (codes "mutation") (option_map bytes c.args.mutation.now) last in
    let start = c.write_text.new.out in
    let roots = appended start _ (elements_text false (root_before (codes "query") (option_map bytes c.args.query.now) others)) _
    (c.in_ok-write_root.ensures json.no_elements ∙ c.in_ok-has_root.ensures last ∙ c.in_ok-has_query.ensures others)
    (no_elements_left _) in
    then_last _ _ _ (c.in_ok-write_directives.ensures ▹ c.in_ok-write_label.ensures ▹ c.in_ok-write_text.ensures ▹ roots) c.write_text-2.ensures
    (simp (later-append, later-one, text-array, append_assoc))
