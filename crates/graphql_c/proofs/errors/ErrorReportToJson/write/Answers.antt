use Rattle.graphql_json.proofs.Texts.{◌▹◌, then_last}
use Rattle.graphql_c.proofs.{report_text}
use Rattle.graphql_c.proofs.errors.ErrorReportToJson.write.Goals as goal

pub returns : goal.returns
returns c =
    then_last _ _ _ (c.in_ok-write_text.ensures ▹ c.in_ok-write_numbers.ensures ▹ c.in_ok-write_inner.ensures ▹ c.in_ok-write_words.ensures)
    c.write_text-2.ensures (report_text c.args.self.now)
