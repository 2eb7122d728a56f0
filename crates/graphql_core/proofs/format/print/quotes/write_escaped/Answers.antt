use Rattle.std.proofs.Common.{◌∷◌, ◌++◌, ◌∙◌, IsUtf8, ap, sym, subst, refl}
use Rattle.std.proofs.lemmas.Str.{IsUtf8-drop}
use Rattle.std.specs.List.{flat_map, slice_get}
use Rattle.graphql_core.specs.{quoted_byte}
use Rattle.graphql_core.proofs.{and_last, and_part, all_done, unescaped_parts, escaped_next, escaped_boundary, first_of, none_of}
use Rattle.graphql_core.proofs.format.print.quotes.write_escaped.Goals as goal

pub returns-in_default : goal.returns-in_default
returns-in_default g c =
    let (now, took, whole) = c.runs.invariant.written in
    let parts = unescaped_parts c.runs.rest.now c.split_at.result.0.now c.split_at.result.1.now _ c.unescaped_len.ensures.len c.split_at.ensures.front
    c.split_at.ensures.back in
    let (all, now_took, same) = and_part g.S.Sink.took g.met.S.Sink.took_more _ _ _ now _ _ _ took c.in_ok-push_str-2.ensures
    (ap (λ r. now ++ r) (sym parts) ∙ whole) in
    let none = none_of c.split_at.result.1.now (c.in_default.ensures.value ∙ ap (λ l. slice_get l 0) c.as_bytes.ensures.value) in
    and_last g.S.Sink.took g.met.S.Sink.took_more _ _ _ _ (34 ∷ flat_map quoted_byte c.args.text.now) _ _
    (all_done g.S.Sink.took g.met.S.Sink.took_more _ _ all _ _ now_took same (ap (flat_map quoted_byte) none)) c.push_str-in_default.ensures refl

pub write_escape-requires : goal.write_escape-requires
write_escape-requires g c =
    let first = first_of c.split_at.result.1.now c.in-Some.byte.now (c.in-Some.ensures.value ∙ ap (λ l. slice_get l 0) c.as_bytes.ensures.value) in
    escaped_next c.runs.rest.now c.unescaped_len.result c.in-Some.byte.now _ c.unescaped_len.ensures.len (sym c.split_at.ensures.back ∙ first)

pub split_at-requires-in-runs : goal.split_at-requires-in-runs
split_at-requires-in-runs g c =
    let first = first_of c.split_at.result.1.now c.in-Some.byte.now (c.in-Some.ensures.value ∙ ap (λ l. slice_get l 0) c.as_bytes.ensures.value) in
    let utf8 = subst IsUtf8 c.as_bytes.ensures.value c.as_bytes.ensures.utf8 in
    escaped_boundary c.runs.rest.now c.split_at.result.1.now _ c.in-Some.byte.now utf8 c.unescaped_len.ensures.len c.split_at.ensures.back first

pub runs-preserved : goal.runs-preserved
runs-preserved g c =
    let (now, took, whole) = c.runs.invariant.written in
    let after = c.split_at.result.1.now in
    let first = first_of after c.in-Some.byte.now (c.in-Some.ensures.value ∙ ap (λ l. slice_get l 0) c.as_bytes.ensures.value) in
    let parts = unescaped_parts c.runs.rest.now c.split_at.result.0.now after _ c.unescaped_len.ensures.len c.split_at.ensures.front c.split_at.ensures.back in
    let (all, now_took, same) = and_part g.S.Sink.took g.met.S.Sink.took_more _ _ _ now _ _ _ took c.in_ok-push_str-2.ensures
    (ap (λ r. now ++ r) (sym parts) ∙ whole) in
    let utf8 = subst IsUtf8 c.as_bytes.ensures.value c.as_bytes.ensures.utf8 in
    let boundary = escaped_boundary c.runs.rest.now after _ c.in-Some.byte.now utf8 c.unescaped_len.ensures.len c.split_at.ensures.back first in
    let left = flat_map quoted_byte in
    record {
      written =
          and_part g.S.Sink.took g.met.S.Sink.took_more _ _ _ all _ _ _ now_took c.in_ok-write_escape.ensures
          (ap (λ r. all ++ (quoted_byte c.in-Some.byte.now ++ left r)) c.split_at-in-runs.ensures.back ∙ ap (λ r. all ++ left r) (sym first)
          ∙ same);
      utf8 = subst IsUtf8 (sym c.split_at-in-runs.ensures.back) (IsUtf8-drop after 1 utf8 boundary);
    }
