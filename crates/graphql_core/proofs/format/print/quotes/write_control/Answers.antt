use Rattle.std.proofs.Common.{ap, ◌++◌, ◌∙◌, codes}
use Rattle.std.proofs.Math.Utf8.{encode}
use Rattle.graphql_core.proofs.{and_last, low_control, high_control}
use Rattle.graphql_core.proofs.format.print.quotes.write_control.Goals as goal

pub returns-in_ok-push_str : goal.returns-in_ok-push_str
returns-in_ok-push_str g c =
    and_last g.S.Sink.took g.met.S.Sink.took_more _ _ _ _ (codes "\\u000") _ _ c.in_ok-push_str.ensures c.write_character.ensures
    (ap (λ d. codes "\\u000" ++ encode d) c.hexadecimal_digit.ensures ∙ low_control c.args.control c.if-control-lt16.true)

pub returns-in_ok-push_str-2 : goal.returns-in_ok-push_str-2
returns-in_ok-push_str-2 g c =
    and_last g.S.Sink.took g.met.S.Sink.took_more _ _ _ _ (codes "\\u001") _ _ c.in_ok-push_str-2.ensures c.write_character-else-control-lt16.ensures
    (ap (λ d. codes "\\u001" ++ encode d) c.hexadecimal_digit-else-control-lt16.ensures ∙ high_control c.args.control c.if-control-lt16.false c.requires)
