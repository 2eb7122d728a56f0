use Rattle.std.proofs.Common.{sym, ap, ◌∙◌, map}
use Rattle.graphql_core.proofs.{begun_by, there, none_given, whole, fails_last, fills}
use Rattle.graphql_core.proofs.common.read.lists.optional_list.Goals as goal

pub returns-then-not-sees_punctuator : goal.returns-then-not-sees_punctuator
returns-then-not-sees_punctuator g c k m n s o =
    none_given (begun_by s) (sym c.sees_punctuator.ensures ∙ c.if-not-sees_punctuator.true)
    (ap (map g.E.Elements.view) c.new.ensures.items ∙ sym o.none)

pub returns-in_err-read_enclosed : goal.returns-in_err-read_enclosed
returns-in_err-read_enclosed g c k m n s o =
    let lead = there (begun_by s) (sym c.sees_punctuator.ensures ∙ c.if-not-sees_punctuator.false) in
    fails_last _ _ _ _ lead (c.in_err-read_enclosed.ensures.reads k m s) c.from_residual-in_err-read_enclosed.ensures.1

pub returns : goal.returns
returns g c k m n s o =
    let (x, takes, adds) = c.in_ok-read_enclosed.ensures.reads k m s in
    let none = c.in_ok-items.ensures.items in
    whole (there (begun_by s) (sym c.sees_punctuator.ensures ∙ c.if-not-sees_punctuator.false)) takes
    (rw c.shrink_list.ensures (fills g.E.Elements.view _ _ _ none adds ∙ sym (o.some x)))
