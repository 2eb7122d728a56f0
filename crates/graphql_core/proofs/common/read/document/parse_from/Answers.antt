use Rattle.std.proofs.Common.{ap, subst, ◌∙◌, List, ℕ}
use Rattle.graphql_core.specs.{items_of_stream, AreItemsOfRest, Stream}
use Rattle.graphql_core.proofs.{stream_parsed}
use Rattle.graphql_core.proofs.common.read.document.parse_from.Goals as goal

pub returns-clause-parses : goal.returns-clause-parses
returns-clause-parses g c readable =
    let from = c.over-cursor.ensures.items ∙ ap items_of_stream c.replace.ensures.value in
    stream_parsed g.D.ReadDocument.language readable _ c.args.stream.now c.into_stream.result
    c.over-cursor.result c.read-read.new.source from
    c.read-read.ensures.kept c.into_stream.ensures.more c.into_stream.ensures.within c.into_stream.ensures.all _
    c.read-read.ensures.reads c.read-read.ensures.end

pub returns-clause-rest : goal.returns-clause-rest
returns-clause-rest g c =
    subst (λ (s : Stream). (text : List ℕ) × AreItemsOfRest s.items text) c.replace.ensures.value c.over-cursor.ensures.rest
