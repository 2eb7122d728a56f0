use Rattle.std.proofs.Common.{subst}
use Rattle.graphql_core.specs.{Items, ReadsDocument}
use Rattle.graphql_core.proofs.common.read.document.read_spans.Goals as goal

pub returns : goal.returns
returns g c items has =
    subst (λ (i : Items). ReadsDocument g.D.ReadDocument.language g.D.ReadDocument.view i c.read.result)
    (c.in_ok-tokens.ensures items has) c.read.ensures.reads
