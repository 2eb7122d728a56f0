use Rattle.graphql_core.proofs.strings.{appended_utf8}
use Rattle.graphql_core.proofs.format.buffer.BufferSink.push_str.Goals as goal

pub invariant_of-self : goal.invariant_of-self
invariant_of-self c = appended_utf8 c.append.result c.self.invariant (rw c.as_bytes.ensures.value c.utf8.text) c.append.ensures.text c.append.ensures.kept
