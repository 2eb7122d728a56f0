use Rattle.std.proofs.Common.{◌∙◌, ◌++◌, ap, refl, sym, arith, rules, append_assoc, false, codes}
use Rattle.graphql_core.proofs.{item_here}
use Rattle.graphql_core.specs.values.ValueViews.{items_view, members_view}
use Rattle.graphql_json.specs.{items_json, fields_json}
use Rattle.graphql_json.specs.Json.{elements_text}
use Rattle.graphql_json.proofs.{◌▹◌, then_last, next_element, appended, list_appended, later-one, later-append, text-array, text-node}
use Rattle.graphql_json.proofs.values.+value.Goals as goal

-- ---- lists

pub write_list-returns : goal.write_list-returns
write_list-returns g t c =
    then_last _ _ _ (c.in_ok-open_node.ensures ▹ c.in_ok-write_label.ensures ▹ c.in_ok-write_items.ensures) c.close_node.ensures
    (simp (text-node, later-one, append_assoc))

pub write_items-items-preserved : goal.write_items-items-preserved
write_items-items-preserved g t c =
    let bytes = g.N.Names.bytes in
    let l = c.items in
    let here = item_here c.args.items.now l.item-index c.item-item.result (omega arith) c.item-item.is in
    next_element l.is_later _ _ _ _ _ _ c.in_ok-write_separator.ensures.grown c.in_ok-write_value.ensures.grown
    (ap (λ xs. l.out ++ elements_text l.is_later (items_json (items_view bytes xs))) (sym here) ∙ l.invariant)

pub write_items-returns : goal.write_items-returns
write_items-returns g t c =
    let l = c.items in
    let items = list_appended (λ xs. items_json (items_view g.N.Names.bytes xs)) c.args.items.now l.item-index l.is_later _ _ (codes "[")
    (omega arith) refl l.invariant in
    then_last _ _ _ items c.write_text-2.ensures
    (sym (text-array _))

-- ---- objects

pub write_object-returns : goal.write_object-returns
write_object-returns g t c =
    then_last _ _ _ (c.in_ok-open_node.ensures ▹ c.in_ok-write_label.ensures ▹ c.in_ok-write_fields.ensures) c.close_node.ensures
    (simp (text-node, later-one, append_assoc))

pub write_fields-members-preserved : goal.write_fields-members-preserved
write_fields-members-preserved g t c =
    let bytes = g.N.Names.bytes in
    let l = c.members in
    let written = rw c.view.ensures at c.in_ok-write_pair.ensures.grown in
    next_element l.is_later _ _ _ _ _ _ c.in_ok-write_separator.ensures.grown written
    (ap (λ es. l.out ++ elements_text l.is_later (fields_json (members_view bytes es))) (sym c.in-Some.ensures.steps) ∙ l.invariant)

pub write_fields-returns : goal.write_fields-returns
unfolding elements_text
write_fields-returns g t c =
    let l = c.members in
    then_last _ _ _
    (appended c.args.out.now l.out (codes "[" ++ elements_text false (fields_json (members_view g.N.Names.bytes c.args.members.now.entries))) _
    l.invariant (search rules)) c.write_text-2.ensures
    (sym (text-array _))

-- ---- names with values

pub write_pair-returns : goal.write_pair-returns
write_pair-returns g t c =
    then_last _ _ _ (c.in_ok-open_node.ensures ▹ c.in_ok-write_name.ensures ▹ c.in_ok-write_label.ensures ▹ c.in_ok-write_value.ensures) c.close_node.ensures
    (simp (text-node, later-append, later-one, append_assoc))
