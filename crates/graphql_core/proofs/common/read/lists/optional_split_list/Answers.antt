use Rattle.std.proofs.Common.{◌≡◌, sym, ap, ◌∙◌, map, length, arith}
use Rattle.graphql_core.specs.{reason_of}
use Rattle.graphql_core.specs.declared.helpers.read_error.ReadError.TheVariants.{Memory}
use Rattle.graphql_core.proofs.{begun_by, there, none_given, whole, fails_last, gives_error_by, taken_off}
use Rattle.graphql_core.proofs.common.read.lists.optional_split_list.Goals as goal

pub returns-then-not-sees_punctuator : goal.returns-then-not-sees_punctuator
returns-then-not-sees_punctuator g c k m n s o =
    none_given (begun_by s) (sym c.sees_punctuator.ensures ∙ c.if-not-sees_punctuator.true)
    (ap (map g.E.Elements.view) c.new.ensures.items ∙ sym o.none)

pub returns-in_err-read_enclosed : goal.returns-in_err-read_enclosed
returns-in_err-read_enclosed g c k m n s o =
    let lead = there (begun_by s) (sym c.sees_punctuator.ensures ∙ c.if-not-sees_punctuator.false) in
    fails_last _ _ _ _ lead (c.in_err-read_enclosed.ensures.reads k m s) c.from_residual.ensures.1

pub returns-in_err-split_list : goal.returns-in_err-split_list
returns-in_err-split_list g c k m n s o =
    gives_error_by reason_of _ _ _ _ _ _ Memory (c.in_ok-read_enclosed.ensures.reads k m s).1.1 c.from_residual-in_err-split_list.ensures.1

pub returns : goal.returns
returns g c k m n s o =
    let (x, takes, adds) = c.in_ok-read_enclosed.ensures.reads k m s in
    let count : c.len-count.result ≡ length c.args.others.now.items = omega (arith, c.len-count.ensures, c.args.others.now.ok.0) in
    whole (there (begun_by s) (sym c.sees_punctuator.ensures ∙ c.if-not-sees_punctuator.false)) takes
    (taken_off g.E.Elements.view _ _ _ adds _ count _ c.in_ok-split_list.ensures.taken ∙ sym (o.some x))
