use Rattle.graphql_core.proofs.strings.{appended_utf8}
use Rattle.graphql_core.proofs.format.buffer.BufferSink.push_start.Goals as goal

pub invariant_of-self : goal.invariant_of-self
invariant_of-self c =
    appended_utf8 c.append_start.result c.self.invariant (rw c.as_bytes.ensures.value c.utf8.text) c.append_start.ensures.text
    c.append_start.ensures.kept
