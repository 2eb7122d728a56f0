use Rattle.std.proofs.Common.{◌∙◌, ap, sym, length, eqb-true, arith}
use Rattle.std.specs.List.{prefix_len}
use Rattle.std.proofs.lemmas.Bool.{false≢true}
use Rattle.std.proofs.lemmas.List.Sums.{prefix_len_passes}
use Rattle.graphql_core.specs.{is_no_backslash}
use Rattle.graphql_core.proofs.common.strings.quoted.has_no_backslash.Goals as goal

pub returns : goal.returns
returns c stated i within at =
    let text = c.args.text.now in
    let same = ap (prefix_len is_no_backslash) c.as_bytes.ensures.value in
    let full = eqb-true c.class_prefix_len.result (length text) stated in
    let pass = prefix_len_passes is_no_backslash text i 0 (omega (arith, within, full, same, c.class_prefix_len.ensures.len)) in
    false≢true (ap is_no_backslash (sym at) ∙ pass)
