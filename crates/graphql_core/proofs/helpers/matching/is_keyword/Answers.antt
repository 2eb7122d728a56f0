use Rattle.std.proofs.Common.{refl, sym, ◌∙◌}
use Rattle.graphql_core.specs.declared.tokenizer.token.Kind.TheVariants.{Name}
use Rattle.graphql_core.proofs.{same_text_spelling, same_kind_number}
use Rattle.graphql_core.proofs.helpers.matching.is_keyword.Goals as goal

pub returns-then-eq : goal.returns-then-eq
returns-then-eq g c =
    let kind = same_kind_number c.args.token.now.kind Name (sym c.eq.ensures ∙ c.if-eq.true) in
    rw (c.eq-then-eq.ensures, same_text_spelling, c.as_str.ensures, kind) refl
