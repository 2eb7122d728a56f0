use Rattle.std.proofs.Common.{◌≡◌, ◌∙◌, ap, rules, codes}
use Rattle.graphql_core.specs.{text_of, list_of, non_null, type_view, type_layout}
use Rattle.graphql_core.specs.declared.common.tree.Type.{the_lemmas}
use Rattle.graphql_core.proofs.{list_text, non_null_text, and_last}
use Rattle.graphql_core.proofs.format.print.types.+write_type.Goals as goal

pub returns-in_ok-write_type-in-ListType : goal.returns-in_ok-write_type-in-ListType
returns-in_ok-write_type-in-ListType g t c =
    let bytes = g.N.Names.bytes in
    let inner = type_view bytes c.deref.result.now in
    let seen : list_of inner ≡ type_view bytes c.args.declared.now = search (rules, the_lemmas) in
    and_last g.S.Sink.took g.met.S.Sink.took_more _ _ _ _ _ (codes "]") _
    (g.met.S.Sink.took_more _ _ _ _ _ c.in_ok-push_str-in-ListType.ensures c.in_ok-write_type-in-ListType.ensures) c.push_str-in-ListType-2.ensures
    (list_text inner ∙ ap (λ d. text_of (type_layout d)) seen)

pub returns-in_ok-write_type-in-NonNullType : goal.returns-in_ok-write_type-in-NonNullType
returns-in_ok-write_type-in-NonNullType g t c =
    let bytes = g.N.Names.bytes in
    let inner = type_view bytes c.deref-in-NonNullType.result.now in
    let seen : non_null inner ≡ type_view bytes c.args.declared.now = search (rules, the_lemmas) in
    and_last g.S.Sink.took g.met.S.Sink.took_more _ _ _ _ _ (codes "!") _ c.in_ok-write_type-in-NonNullType.ensures c.push_str-in-NonNullType.ensures
    (non_null_text inner ∙ ap (λ d. text_of (type_layout d)) seen)
