use Rattle.std.proofs.Common.{rules, ◌≡◌, string_bytes, append_assoc}
use Rattle.graphql_json.proofs.Texts.{◌▹◌, then_last}
use Rattle.graphql_c.specs.steps.{words_text}
use Rattle.graphql_c.proofs.errors.write_words.Goals as goal

pub returns : goal.returns
unfolding words_text
returns c =
    let same : c.deref.result.now ≡ string_bytes c.args.report.now.message = search rules in
    let message = rw same at c.in_ok-write_quoted.ensures in
    let expected = rw c.deref-2.ensures.value at c.write_array.ensures in
    then_last _ _ _ (c.in_ok-write_text.ensures ▹ message ▹ c.in_ok-write_text-2.ensures ▹ c.in_ok-write.ensures ▹ c.in_ok-write_text-3.ensures) expected
    (simp append_assoc)
