use Rattle.graphql_core.proofs.{reads_on, left_alone}
use Rattle.graphql_core.proofs.common.grammar.extended.Goals as goal

pub returns : goal.returns
returns c = record { on = λ n g h x e b w. reads_on n g h x e b w; alone = λ n g cs a e b x f. left_alone n g cs a f b }
