use Rattle.std.proofs.lemmas.Str.{IsUtf8-append}
use Rattle.graphql_core.proofs.strings.{appended_utf8, space_utf8}
use Rattle.graphql_core.proofs.format.buffer.Buffer.push_spaced.Goals as goal

pub invariant_of-self : goal.invariant_of-self
invariant_of-self c =
    appended_utf8 c.append_spaced.result c.self.invariant
    (IsUtf8-append _ _ (space_utf8 c.args.is_spaced) (rw c.as_bytes.ensures.value c.utf8.text))
    c.append_spaced.ensures.text c.append_spaced.ensures.kept
