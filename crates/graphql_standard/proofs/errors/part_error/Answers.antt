use Rattle.graphql_standard.proofs.AllErrors.{syntax_in_source, deep_in_source}
use Rattle.graphql_standard.proofs.errors.part_error.Goals as goal

pub returns-in-Err-Syntax : goal.returns-in-Err-Syntax
returns-in-Err-Syntax c = λ source h.
    syntax_in_source c.args.limit source c.args.part.now _ c.in-Err-Syntax.error _ c.in-Err-Syntax.field-0-is
    c.in-Err-Syntax.ensures.first_error h c.in_source-place.ensures

pub returns-in-Err-TooDeep : goal.returns-in-Err-TooDeep
returns-in-Err-TooDeep c = λ source h.
    deep_in_source c.args.limit source c.args.part.now _ c.in-Err-TooDeep.place _ c.in-Err-TooDeep.field-0-is
    c.in-Err-TooDeep.ensures.first_error h c.in_source.ensures
