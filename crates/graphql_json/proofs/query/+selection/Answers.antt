use Rattle.std.proofs.Common.{codes, ◌∙◌, ◌++◌, ap, refl, sym, arith, append_assoc, append-nil}
use Rattle.graphql_query.specs.declared.tree.SelectionSet.{the_lemmas}
use Rattle.graphql_query.specs.Tree.{selections_view}
use Rattle.graphql_query.proofs.layouts.LayoutTexts.{selection_set_parts, field_parts, inline_fragment_parts, selection_here, no_items, some_items}
use Rattle.graphql_json.specs.{selections_json}
use Rattle.graphql_json.specs.Json.{elements_text}
use Rattle.graphql_json.proofs.{◌▹◌, then_last, begun, next_element, list_appended, later-one, later-append}
use Rattle.graphql_json.proofs.{text-array, text-node, option_map-option_map, selected_none, selected_some}
use Rattle.graphql_json.proofs.query.+selection.Goals as goal

-- ---- selection sets

pub write_selection_set-write_selections-requires : goal.write_selection_set-write_selections-requires
write_selection_set-write_selections-requires g t c κs within = rw c.deref.ensures.value (grind (arith, the_lemmas))

pub write_selection_set-returns : goal.write_selection_set-returns
write_selection_set-returns g t c =
    let selections = rw c.deref.ensures.value at c.in_ok-write_selections.ensures in
    then_last _ _ _ (c.in_ok-open_node.ensures ▹ c.in_ok-write_span.ensures ▹ c.in_ok-write_label.ensures ▹ selections) c.close_node.ensures
    (rw (selection_set_parts g.N.Names.bytes c.args.set.now) (simp (text-node, later-append, later-one, append_assoc)))

pub write_selections-items-init : goal.write_selections-items-init
write_selections-items-init g t c = begun _ _ _ _ c.in_ok-write_text.ensures.grown

pub write_selections-items-preserved : goal.write_selections-items-preserved
write_selections-items-preserved g t c =
    let bytes = g.N.Names.bytes in
    let l = c.items in
    let here = selection_here bytes c.args.items.now l.item-index c.item-item.result (omega arith) c.item-item.is in
    next_element l.is_later _ _ _ _ _ _ c.in_ok-write_separator.ensures.grown c.in_ok-write_selection.ensures.grown
    (ap (λ ss. l.out ++ elements_text l.is_later (selections_json ss)) (sym here) ∙ l.invariant)

pub write_selections-returns : goal.write_selections-returns
write_selections-returns g t c =
    let l = c.items in
    let items = list_appended (λ xs. selections_json (selections_view g.N.Names.bytes xs)) c.args.items.now l.item-index l.is_later _ _
    (codes "[") (omega arith) refl l.invariant in
    then_last _ _ _ items c.write_text-2.ensures
    (sym (text-array _))

-- ---- selections

pub write_field-returns : goal.write_field-returns
write_field-returns g t c =
    let arguments = rw c.deref.ensures.value at c.in_ok-write_arguments.ensures in
    let directives = rw c.deref-2.ensures.value at c.in_ok-write_directives.ensures in
    then_last _ _ _
    (c.in_ok-open_node.ensures ▹ c.in_ok-write_position.ensures ▹ c.in_ok-write_optional_name.ensures ▹ c.in_ok-write_name.ensures ▹ arguments
    ▹ directives ▹ c.in_ok-write_selected.ensures) c.close_node.ensures
    (rw (field_parts g.N.Names.bytes c.args.field.now, c.view.ensures) (simp (text-node, later-append, append_assoc)))

pub write_selected-returns-then-is_empty : goal.write_selected-returns-then-is_empty
write_selected-returns-then-is_empty g t c =
    let bytes = g.N.Names.bytes in
    let s = c.args.set.now in
    record {
      grown = rw (selected_none bytes s (no_items bytes s (sym c.is_empty.ensures ∙ c.if-is_empty.true))) (sym (append-nil c.args.out.now));
    }

pub write_selected-returns : goal.write_selected-returns
write_selected-returns g t c =
    let bytes = g.N.Names.bytes in
    let s = c.args.set.now in
    then_last _ _ _ c.in_ok-write_label.ensures c.write_selection_set.ensures
    (sym (selected_some bytes s (some_items bytes s (sym c.is_empty.ensures ∙ c.if-is_empty.false))))

pub write_inline_fragment-returns : goal.write_inline_fragment-returns
write_inline_fragment-returns g t c =
    let bytes = g.N.Names.bytes in
    let directives = rw c.deref.ensures.value at c.in_ok-write_directives.ensures in
    then_last _ _ _
    (c.in_ok-open_node.ensures ▹ c.in_ok-write_position.ensures ▹ c.in_ok-write_optional_node.ensures ▹ directives ▹ c.in_ok-write_label.ensures
    ▹ c.in_ok-write_selection_set.ensures) c.close_node.ensures
    (rw (inline_fragment_parts bytes c.args.fragment.now) (simp (option_map-option_map, text-node, later-append, later-one, append_assoc)))
