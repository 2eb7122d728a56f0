use Rattle.std.proofs.Common.{Option, MatchOption, List, [], ◌∷◌, ◌++◌, ap, ◌∙◌, subst, arith}
use Rattle.graphql_standard.specs.AllErrors.{IsRight, IsPartError}
use Rattle.graphql_standard.specs.declared.error.CheckError.{CheckError}
use Rattle.graphql_standard.specs.declared.error.CheckError.TheVariants.{TooLong}
use Rattle.graphql_standard.proofs.AllErrors.{HasSoFar, no_more, one_more, too_long}
use Rattle.graphql_standard.proofs.errors.check_all.Goals as goal

pub returns-then-source-gt-MAX_LENGTH : goal.returns-then-source-gt-MAX_LENGTH
returns-then-source-gt-MAX_LENGTH c =
    too_long c.args.limit c.args.source.now _
    (c.in_ok-push.ensures.items ∙ ap (λ (l : List CheckError). l ++ TooLong ∷ []) c.new-errors.ensures.items)
    (omega (arith, c.if-source-gt-MAX_LENGTH.true))

pub parts-preserved-in_ok-next-in-Some-2 : goal.parts-preserved-in_ok-next-in-Some-2
parts-preserved-in_ok-next-in-Some-2 c =
    let source = c.args.source.now in
    let text = c.in-Some.part.text.now in
    let so_far = subst (HasSoFar c.args.limit source c.parts.errors.items) c.in-Some.is c.parts.invariant in
    let wrong = subst (λ (o : Option CheckError). MatchOption o (IsRight c.args.limit text) (IsPartError c.args.limit source text))
    c.in-Some-2.is (c.in_ok-error.ensures source so_far.0) in
    rw c.in_ok-push-in-Some-2.ensures.items
    (one_more c.args.limit source c.parts.errors.items c.in-Some.part c.in-Some-2.error _ so_far wrong
    c.in_ok-next-in-Some-2.ensures.next c.in_ok-next-in-Some-2.ensures.part)

pub parts-preserved : goal.parts-preserved
parts-preserved c =
    let source = c.args.source.now in
    let text = c.in-Some.part.text.now in
    let so_far = subst (HasSoFar c.args.limit source c.parts.errors.items) c.in-Some.is c.parts.invariant in
    let right = subst (λ (o : Option CheckError). MatchOption o (IsRight c.args.limit text) (IsPartError c.args.limit source text))
    c.in-None.is (c.in_ok-error.ensures source so_far.0) in
    no_more c.args.limit source c.parts.errors.items c.in-Some.part so_far right
