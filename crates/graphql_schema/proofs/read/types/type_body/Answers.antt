use Rattle.std.proofs.Common.{ℕ, List, refl, ap, subst, ◌∙◌}
use Rattle.graphql_core.specs.{written, keyword}
use Rattle.graphql_core.proofs.{TakesNone, here, took, past, after, fails, fails_last, lacks, whole}
use Rattle.graphql_schema.specs.{changes, parts_of}
use Rattle.graphql_schema.proofs.{lifted, stops_lifted, of_kind, kind_taken, same_body}
use Rattle.graphql_schema.proofs.read.types.type_body.Goals as goal

pub returns-in_err-position : goal.returns-in_err-position
returns-in_err-position g c =
    let old = g.S.TokenSource.items c.args.source.now in
    let new = g.S.TokenSource.items c.expect_keyword.new.source in
    of_kind c.args.kind _ _ _ _ (lacks _ _ _ _ _ here
    (subst (λ (w : List ℕ). TakesNone (keyword w) old new c.in_err-position.field-0.0) c.word.ensures c.in_err-position.ensures) c.from_residual.ensures.1)

pub returns-in_err-name : goal.returns-in_err-name
returns-in_err-name g c =
    let begins = past here (took (rw c.word.ensures at c.in_ok-position.ensures.1) refl) in
    of_kind c.args.kind _ _ _ _ (lacks _ _ _ _ _ begins c.in_err-name.ensures c.from_residual-in_err-name.ensures.1)

pub returns-in_err-interfaces : goal.returns-in_err-interfaces
returns-in_err-interfaces g c =
    let named = past (past here (took (rw c.word.ensures at c.in_ok-position.ensures.1) refl)) (took c.in_ok-name.ensures.1 refl) in
    of_kind c.args.kind _ _ _ _ (fails _ _ _ _ named c.in_err-interfaces.ensures c.from_residual-in_err-interfaces.ensures.1)

pub returns-in_err-directives : goal.returns-in_err-directives
returns-in_err-directives g c =
    let named = past (past here (took (rw c.word.ensures at c.in_ok-position.ensures.1) refl)) (took c.in_ok-name.ensures.1 refl) in
    let implements = after named c.in_ok-interfaces.ensures in
    of_kind c.args.kind _ _ _ _
    (fails _ _ _ _ implements (stops_lifted _ refl refl _ _ _ c.in_err-directives.ensures) c.from_residual-in_err-directives.ensures.1)

pub returns-in_err-parts : goal.returns-in_err-parts
returns-in_err-parts g c =
    let named = past (past here (took (rw c.word.ensures at c.in_ok-position.ensures.1) refl)) (took c.in_ok-name.ensures.1 refl) in
    let directed = after (after named c.in_ok-interfaces.ensures) (lifted refl refl c.in_ok-directives.ensures) in
    of_kind c.args.kind _ _ _ _ (fails_last _ _ _ _ directed c.in_err-parts.ensures c.from_residual-in_err-parts.ensures.1)

pub returns : goal.returns
returns g c =
    let (w, begins, at) = c.in_ok-position.ensures in
    let (n, called, spelled) = c.in_ok-name.ensures in
    let (i, implements, names) = c.in_ok-interfaces.ensures in
    let (d, directed, directs) = lifted refl refl c.in_ok-directives.ensures in
    let (x, takes, views) = c.in_ok-parts.ensures in
    let named = past (past here (took (rw c.word.ensures at begins) refl)) (took called refl) in
    kind_taken c.args.kind (whole (past (past named implements) directed) takes
    (same_body at spelled directs
    (views ∙ ap (λ is. parts_of c.args.kind is (written changes x)) names)))
