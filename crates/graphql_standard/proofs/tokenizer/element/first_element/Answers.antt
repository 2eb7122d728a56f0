use Rattle.graphql_standard.proofs.lexical.Elements.{number_result, standard_from, other_from}
use Rattle.graphql_standard.proofs.tokenizer.element.first_element.Goals as goal

pub returns-in-None-clause-first : goal.returns-in-None-clause-first
returns-in-None-clause-first c =
    number_result c.args.source.now c.first_number.result c.in-None.ensures.first c.first_number.ensures.none c.first_number.ensures.number

pub returns-in-Some-clause-standard : goal.returns-in-Some-clause-standard
returns-in-Some-clause-standard c stated =
    let (m, is, st, kind) = c.in-Some.ensures.first in
    (m, is, standard_from m c.in-Some.element.kind st kind (c.is_standard-is_standard.ensures.standard stated), kind)

pub returns-in-Some-clause-not_standard : goal.returns-in-Some-clause-not_standard
returns-in-Some-clause-not_standard c stated =
    let (m, is, st, kind) = c.in-Some.ensures.first in
    other_from c.args.source.now c.in-Some.element.text.now c.in-Some.element.rest.now m c.in-Some.element.kind is st kind
    (c.is_standard-is_standard.ensures.other stated)
