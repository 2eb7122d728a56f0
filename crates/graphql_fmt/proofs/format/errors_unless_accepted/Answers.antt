use Rattle.std.proofs.lemmas.Result.{IfOk-weaker}
use Rattle.std.proofs.Common.{rules, inl, inr, IsTrue, false}
use Rattle.graphql_core.proofs.{false≢true}
use Rattle.graphql_fmt.specs.{HasNoToken, IsParsedDocument}
use Rattle.graphql_fmt.specs.Reporting.{accepted}
use Rattle.graphql_fmt.proofs.SourceErrors.{not_accepted, rejected_with}
use Rattle.graphql_fmt.proofs.format.errors_unless_accepted.Goals as goal
use Rattle.graphql_fmt.proofs.format.errors_unless_accepted.Goals.{then-has_no_token-via-then-has_no_token, then-has_no_token-via-else-has_no_token+in_ok-is_parsed+then-branch}

pub returns-then-has_no_token : goal.returns-then-has_no_token
returns-then-has_no_token c = rw c.new.ensures.items (elim c.then-has_no_token.branch [
  | then-has_no_token-via-then-has_no_token w ↦ accepted (c.requires.length, inl (c.has_no_token.ensures.0 w.if-has_no_token.true))
  | then-has_no_token-via-else-has_no_token+in_ok-is_parsed+then-branch w ↦
      accepted (c.requires.length, inr (inr (w.in_ok-is_parsed.ensures.0 w.if-branch.true).1))
])

pub returns : goal.returns
returns c =
    let source = c.args.source.now in
    let tokens : HasNoToken source → ⊥ = λ none. let yes = c.has_no_token.ensures.1 none in let no = c.if-has_no_token.false in cc in
    let parsed : IsParsedDocument source → ⊥ = λ doc. let yes = c.in_ok-is_parsed.ensures.1 (c.requires.length, doc) in let no = c.if-branch.false in cc in
    IfOk-weaker c.check_all.result _ _
    (λ errors has. rejected_with source _ c.requires.not_standard (not_accepted source tokens c.requires.not_standard parsed) has)
    c.check_all.ensures
