use Rattle.std.proofs.Common.{◌∷◌, ◌++◌, ◌∙◌, [], length, ap, sym, append-nil, arith}
use Rattle.std.proofs.lemmas.List.{take_all, drop_all}
use Rattle.graphql_core.proofs.{and_alone, unescaped_parts}
use Rattle.graphql_core.proofs.format.print.quotes.write_plain.Goals as goal

pub returns : goal.returns
returns g c =
    let text = c.args.text.now in
    let parts = unescaped_parts text text [] (length text) (sym c.requires) (sym (take_all _ text (omega arith)))
    (sym (drop_all _ text (omega arith))) in
    and_alone g.S.Sink.took g.met.S.Sink.took_more _ _ _ _ _ c.push_three.ensures
    (ap (λ r. 34 ∷ (r ++ 34 ∷ [])) (sym (parts ∙ append-nil text)))
