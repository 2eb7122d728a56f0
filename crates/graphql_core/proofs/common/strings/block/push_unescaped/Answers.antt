use Rattle.std.proofs.Common.{◌++◌, ◌∷◌, [], take, drop, string_bytes, arith, rules, sym, ap, ◌∙◌, append_assoc}
use Rattle.graphql_core.specs.{unescaped}
use Rattle.graphql_core.proofs.{unescaped_at, unescaped_none, completed}
use Rattle.graphql_core.proofs.common.strings.block.push_unescaped.Goals as goal

pub escapes-preserved : goal.escapes-preserved
escapes-preserved c =
    let (i, j, found, before, after, ordered, front, back) = c.in-Some.ensures.cases in
    let rest = c.escapes.rest.now in
    let split = unescaped_at rest i j (omega arith) found.0 found.1.split in
    let value = string_bytes c.escapes.value in
    record {
      text = search rules;
      written =
          rw (c.in_ok-push_str-2.ensures.bytes, c.in_ok-push_str.ensures.bytes, before, after)
          (append_assoc (value ++ take i rest) (34 ∷ 34 ∷ 34 ∷ []) (unescaped (drop j rest))
          ∙ append_assoc value (take i rest) (34 ∷ 34 ∷ 34 ∷ unescaped (drop j rest)) ∙ ap (λ t. value ++ t) (sym split) ∙ c.escapes.invariant.written);
    }

pub returns : goal.returns
returns c =
    let none = unescaped_none c.escapes.rest.now c.in_default.ensures.cases in
    completed c.push_str-2.result _ (string_bytes c.escapes.value) c.escapes.rest.now _ c.push_str-2.ensures.bytes
    (ap (λ t. string_bytes c.escapes.value ++ t) (sym none) ∙ c.escapes.invariant.written)
