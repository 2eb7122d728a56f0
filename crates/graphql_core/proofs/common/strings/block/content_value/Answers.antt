use Rattle.std.proofs.Common.{◌≡◌, ◌≤◌, ℕ, ◌+◌, ◌-◌, min, ◌==◌, if◌then◌else◌, List, [], ◌∷◌, ◌++◌, length, take, drop, string_bytes, sym, ap, ◌∙◌, arith}
use Rattle.std.proofs.Common.{rules}
use Rattle.std.proofs.lemmas.List.{take_all}
use Rattle.std.proofs.lemmas.List.Sums.{prefix_len-le-length}
use Rattle.std.specs.List.{join_by, prefix_len}
use Rattle.std.specs.Str.Lines.{lines}
use Rattle.graphql_core.specs.{indent, is_blank_line, common_indent, unescaped}
use Rattle.std.proofs.lemmas.Bool.Decides.{nat_tests}
use Rattle.std.proofs.lemmas.Str.{encode_ascii}
use Rattle.graphql_core.proofs.{piece, kept, kept_line, length-kept, first_written, later_written, pieces_kept, line_at}
use Rattle.graphql_core.proofs.{left_after, shape_first, shape_through, shape_indent, some_left}
use Rattle.graphql_core.proofs.common.strings.block.content_value.Goals.{then-index-first+in_ok-push, else-index-first, then-index-eq0, else-index-eq0}
use Rattle.graphql_core.proofs.common.strings.block.content_value.Goals as goal

pub after_lines-rest-requires : goal.after_lines-rest-requires
after_lines-rest-requires c =
    let ls = lines c.args.content.now in
    omega (arith, shape_first _ ls c.shape_of-shape.ensures, prefix_len-le-length is_blank_line ls)

pub first_line-requires : goal.first_line-requires
first_line-requires c =
    let ls = lines c.args.content.now in
    some_left ls c.lines.index c.lines.rest.now c.lines.invariant.left (omega (arith, shape_through _ ls c.shape_of-shape.ensures))

pub lines-preserved : goal.lines-preserved
lines-preserved c =
    let shape = c.shape_of-shape.result in
    let ls = lines c.args.content.now in
    let zs = kept shape.first shape.through ls in
    let i = c.lines.index in
    let k = i - shape.first in
    let rest = c.lines.rest.now in
    let line = c.first_line.result.0.now in
    let after = c.first_line.result.1.now in
    let width = c.unwrap_or-width.result in
    let left = c.lines.invariant.left in
    let first = c.first_line.ensures.lines in
    let capacity : shape.through ≤ length ls = omega (arith, shape_through shape ls c.shape_of-shape.ensures) in
    let (within, here) = kept_line shape.first shape.through ls i line (omega arith) (omega arith) capacity (line_at ls i rest line after left first) in
    let step : i + 1 - shape.first ≡ k + 1 = omega arith in
    let next : ℕ × List ℕ = (i, line) in
    let removed : c.if-index-eq0.removed ≡ (if i == 0 then 0 else width) = elim c.if-index-eq0.branch [
      | then-index-eq0 w ↦ grind (arith, nat_tests)
      | else-index-eq0 w ↦ grind (arith, nat_tests)
    ]
    in
    let text : unescaped c.unindented.result.now ≡ piece width next = ap unescaped (c.unindented.ensures ∙ ap (λ n. drop (min (indent line) n) line) removed) in
    let done = join_by (piece width) (10 ∷ []) (take k zs) in
    let pushed = c.in_ok-push_line.ensures in
    record {
      text = search rules;
      left = left_after ls i rest line after left first;
      written = elim c.if-index-first.branch [
        | then-index-first+in_ok-push w ↦
            let before : string_bytes c.if-index-first.value ≡ done ++ 10 ∷ [] = ap string_bytes w.value-is ∙ w.in_ok-push.ensures.bytes
            ∙ ap (λ t. string_bytes c.lines.value ++ t) (encode_ascii 10 (omega arith)) ∙ ap (λ t. t ++ 10 ∷ []) c.lines.invariant.written in
            pushed ∙ ap (λ t. t ++ unescaped c.unindented.result.now) before ∙ ap (λ t. (done ++ 10 ∷ []) ++ t) text
            ∙ sym (later_written width zs k next within here (omega arith)) ∙ ap (λ n. join_by (piece width) (10 ∷ []) (take n zs)) (sym step)
        | else-index-first w ↦
            let before : string_bytes c.if-index-first.value ≡ done = ap string_bytes w.value-is ∙ c.lines.invariant.written in
            pushed ∙ ap (λ t. t ++ unescaped c.unindented.result.now) before ∙ ap (λ t. done ++ t) text
            ∙ sym (first_written width zs k next within here (omega arith)) ∙ ap (λ n. join_by (piece width) (10 ∷ []) (take n zs)) (sym step)
      ];
    }

pub returns : goal.returns
returns c =
    let shape = c.shape_of-shape.result in
    let ls = lines c.args.content.now in
    let zs = kept shape.first shape.through ls in
    let width = c.unwrap_or-width.result in
    let is = c.shape_of-shape.ensures in
    let through = shape_through shape ls is in
    let capacity : shape.through ≤ length ls = omega (arith, through) in
    let k = c.lines.index - shape.first in
    let all = take_all k zs (omega (arith, length-kept shape.first shape.through ls capacity)) in
    c.lines.invariant.written ∙ ap (join_by (piece width) (10 ∷ [])) all
    ∙ ap (λ n. join_by (piece n) (10 ∷ []) zs) (c.unwrap_or-width.ensures ∙ shape_indent shape ls is)
    ∙ ap (λ n. join_by (piece (common_indent ls)) (10 ∷ []) (kept n shape.through ls)) (shape_first shape ls is)
    ∙ ap (λ n. join_by (piece (common_indent ls)) (10 ∷ []) (kept (prefix_len is_blank_line ls) n ls)) through
    ∙ pieces_kept ls
