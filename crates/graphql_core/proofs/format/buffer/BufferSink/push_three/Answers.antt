use Rattle.std.proofs.lemmas.Str.{IsUtf8-append}
use Rattle.graphql_core.proofs.strings.{appended_utf8}
use Rattle.graphql_core.proofs.format.buffer.BufferSink.push_three.Goals as goal

pub invariant_of-self : goal.invariant_of-self
invariant_of-self c =
    appended_utf8 c.append_three.result c.self.invariant
    (rw (c.as_bytes.ensures.value, c.as_bytes-2.ensures.value, c.as_bytes-3.ensures.value)
    (IsUtf8-append _ _ c.utf8.first (IsUtf8-append _ _ c.utf8.second c.utf8.third)))
    c.append_three.ensures.text c.append_three.ensures.kept
