use Rattle.std.proofs.Common.{◌≡◌, ◌∙◌, rules, sym, subst, string_bytes}
use Rattle.graphql_schema.specs.{ParsesBackTo, layout, document_view}
use Rattle.graphql_schema.proofs.{way_back, parse_back}
use Rattle.graphql_schema.proofs.tree.Document.format.Goals as goal

pub returns-clause-parses_back : goal.returns-clause-parses_back
returns-clause-parses_back g c printable =
    let d = document_view g.N.Names.bytes c.args.self.now in
    let printed : string_bytes c.into_string.result ≡ layout c.args.style.now d = search rules in
    subst (λ text. ParsesBackTo text d) (sym printed) (way_back c.args.style.now d printable c.in_ok-write.ensures.well_formed)

pub returns-clause-one_document : goal.returns-clause-one_document
returns-clause-one_document g c printable e other law same =
    let d = document_view g.N.Names.bytes c.args.self.now in
    let printed : string_bytes c.into_string.result ≡ layout c.args.style.now d = search rules in
    parse_back.one_text c.args.style.now e d (other, law) (printable, c.in_ok-write.ensures.well_formed) (same ∙ printed)
