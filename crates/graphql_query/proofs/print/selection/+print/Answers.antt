use Rattle.std.proofs.Common.{rules, arith, ◌∙◌, ◌+◌, ◌*◌, ◌++◌, ◌<◌, ◌^◌, append_assoc, ap, sym, refl, []}
use Rattle.graphql_core.specs.{text_of, in_levels}
use Rattle.std.proofs.lemmas.Result.{on_ok_weaker}
use Rattle.graphql_core.proofs.{narrower, text_append, and_alone, and_last, and_part, on_ok, all_hold}
use Rattle.graphql_query.specs.declared.tree.SelectionSet.{the_lemmas}
use Rattle.graphql_query.specs.{selection_set_view, selection_view, selections_view, AreWellFormedSelections}
use Rattle.graphql_query.specs.{selection_layout, selections_layout, selection_set_levels}
use Rattle.graphql_query.proofs.{selection_set_parts, field_parts, inline_fragment_parts, selection_here}
use Rattle.graphql_query.proofs.{no_items, some_items, nothing_layout, nothing_well_formed, some_levels, some_layout}
use Rattle.graphql_query.proofs.print.selection.+print.Goals as goal

pub write_selection_set-write_selections-requires : goal.write_selection_set-write_selections-requires
write_selection_set-write_selections-requires g t c κs within =
    let fits = rw (selection_set_parts g.N.Names.bytes c.args.set.now) at c.requires in
    (rw c.deref.ensures.value (grind (arith, the_lemmas)), rw c.deref.ensures.value (search (rules, fits)))

pub write_selection_set-returns-clause-text : goal.write_selection_set-returns-clause-text
write_selection_set-returns-clause-text g t c =
    let bytes = g.N.Names.bytes in
    let more = g.met.S.Sink.took_more in
    let selections = rw c.deref.ensures.value at c.in_ok-write_selections.ensures.text in
    let written = more _ _ _ _ _ (more _ _ _ _ _ c.in_ok-push_two.ensures selections) c.in_ok-write_spaces.ensures in
    and_last g.S.Sink.took more _ _ _ _ _ _ _ written c.push_str.ensures
    (rw (selection_set_parts bytes c.args.set.now, c.indentation.ensures)
    (simp (text_append, append_assoc)))

pub write_selection_set-returns-clause-well_formed : goal.write_selection_set-returns-clause-well_formed
write_selection_set-returns-clause-well_formed g t c =
    let selections = rw c.deref.ensures.value at c.in_ok-write_selections.ensures.well_formed in
    on_ok c.push_str.result (rw (selection_set_parts g.N.Names.bytes c.args.set.now) selections)

pub write_selections-write_selection-requires : goal.write_selections-write_selection-requires
write_selections-write_selection-requires g t c κs within = (
  grind (arith, the_lemmas),
  let l = c.items in
      let here = selection_here g.N.Names.bytes c.args.items.now l.item-index c.item-item.result (omega arith) c.item-item.is in
      let bound = rw here at l.invariant.bound in
      let fits = narrower c.args.margin _ _ c.args.style.now.indent (2 ^ 32) bound in
      search (rules, fits.0),
)

pub write_selections-items-init : goal.write_selections-items-init
write_selections-items-init g t c = record {
  bound = c.requires;
  wrote = ([], g.met.S.Sink.took_nil _, refl);
  well_formed = λ h. h;
}

pub write_selections-items-preserved : goal.write_selections-items-preserved
write_selections-items-preserved g t c =
    let bytes = g.N.Names.bytes in
    let l = c.items in
    let here = selection_here bytes c.args.items.now l.item-index c.item-item.result (omega arith) c.item-item.is in
    let bound = rw here at l.invariant.bound in
    let fits = narrower c.args.margin _ _ c.args.style.now.indent (2 ^ 32) bound in
    let (done, wrote, rest) = l.invariant.wrote in
    record {
      bound = fits.1;
      wrote = and_part g.S.Sink.took g.met.S.Sink.took_more _ _ _ done _ _ _ wrote c.in_ok-write_selection.ensures.text
          (ap (λ r. done ++ r)
          (sym (ap (λ r. text_of (selections_layout c.args.style.now c.args.margin r)) here
          ∙ text_append (selection_layout c.args.style.now c.args.margin (selection_view bytes c.item-item.result)) _)) ∙ rest);
      well_formed = λ h. l.invariant.well_formed (rw here (c.in_ok-write_selection.ensures.well_formed, h));
    }

pub write_selections-returns-clause-well_formed : goal.write_selections-returns-clause-well_formed
write_selections-returns-clause-well_formed g t c =
    all_hold (selections_view g.N.Names.bytes) c.args.items.now c.args.items.now c.items.item-index (omega arith) refl
    AreWellFormedSelections tt c.items.invariant.well_formed

pub write_field-write_directives-requires : goal.write_field-write_directives-requires
write_field-write_directives-requires g t c =
    let indent = c.args.style.now.indent in
    let fits = rw (field_parts g.N.Names.bytes c.args.field.now) at c.requires in
    let later = (narrower c.args.margin _ _ indent (2 ^ 32) fits).1 in
    rw c.deref-2.ensures.value (narrower c.args.margin _ _ indent (2 ^ 32) later).0

pub write_field-write_optional_selection_set-requires : goal.write_field-write_optional_selection_set-requires
write_field-write_optional_selection_set-requires g t c κs within =
    let indent = c.args.style.now.indent in
    let fits = rw (field_parts g.N.Names.bytes c.args.field.now) at c.requires in
    let later = (narrower c.args.margin _ _ indent (2 ^ 32) fits).1 in
    let last = (narrower c.args.margin _ _ indent (2 ^ 32) later).1 in
    (grind (arith, the_lemmas), search (rules, last))

pub write_field-returns-clause-text : goal.write_field-returns-clause-text
write_field-returns-clause-text g t c =
    let bytes = g.N.Names.bytes in
    let more = g.met.S.Sink.took_more in
    let named = more _ _ _ _ _ (more _ _ _ _ _ c.in_ok-write_spaces.ensures c.in_ok-write_alias.ensures) c.in_ok-push_str.ensures in
    let arguments = rw c.deref.ensures.value at c.in_ok-write_arguments.ensures.text in
    let directives = rw c.deref-2.ensures.value at c.in_ok-write_directives.ensures.text in
    let written = more _ _ _ _ _ (more _ _ _ _ _ named arguments) directives in
    and_last g.S.Sink.took more _ _ _ _ _ _ _ written c.write_optional_selection_set.ensures.text
    (rw (field_parts bytes c.args.field.now, c.view.ensures) (simp (text_append, append_assoc)))

pub write_field-returns-clause-well_formed : goal.write_field-returns-clause-well_formed
write_field-returns-clause-well_formed g t c =
    let arguments = rw c.deref.ensures.value at c.in_ok-write_arguments.ensures.well_formed in
    let directives = rw c.deref-2.ensures.value at c.in_ok-write_directives.ensures.well_formed in
    rw (field_parts g.N.Names.bytes c.args.field.now)
    (on_ok_weaker c.write_optional_selection_set.result (λ set. (arguments, directives, set))
    c.write_optional_selection_set.ensures.well_formed)

pub write_inline_fragment-write_selection_set-requires : goal.write_inline_fragment-write_selection_set-requires
write_inline_fragment-write_selection_set-requires g t c κs within =
    let fits = rw (inline_fragment_parts g.N.Names.bytes c.args.fragment.now) at c.requires in
    let later = (narrower c.args.margin _ _ c.args.style.now.indent (2 ^ 32) fits).1 in
    (grind (arith, the_lemmas), search (rules, later))

pub write_inline_fragment-returns-clause-text : goal.write_inline_fragment-returns-clause-text
write_inline_fragment-returns-clause-text g t c =
    let bytes = g.N.Names.bytes in
    let more = g.met.S.Sink.took_more in
    let on = more _ _ _ _ _ (more _ _ _ _ _ c.in_ok-write_spaces.ensures c.in_ok-push_str.ensures) c.in_ok-write_optional_type_condition.ensures in
    let directives = rw c.deref.ensures.value at c.in_ok-write_directives.ensures.text in
    and_last g.S.Sink.took more _ _ _ _ _ _ _ (more _ _ _ _ _ on directives) c.write_selection_set.ensures.text
    (rw (inline_fragment_parts bytes c.args.fragment.now) (simp (text_append, append_assoc)))

pub write_inline_fragment-returns-clause-well_formed : goal.write_inline_fragment-returns-clause-well_formed
write_inline_fragment-returns-clause-well_formed g t c =
    let directives = rw c.deref.ensures.value at c.in_ok-write_directives.ensures.well_formed in
    rw (inline_fragment_parts g.N.Names.bytes c.args.fragment.now)
    (on_ok_weaker c.write_selection_set.result (λ set. (directives, set)) c.write_selection_set.ensures.well_formed)

pub write_optional_selection_set-write_selection_set-requires : goal.write_optional_selection_set-write_selection_set-requires
write_optional_selection_set-write_selection_set-requires g t c κs within =
    let bytes = g.N.Names.bytes in
    let s = c.args.set.now in
    let same = some_levels bytes s (in_levels c.args.style.now) (some_items bytes s (sym c.is_empty.ensures ∙ c.if-is_empty.false)) in
    let fits : c.args.margin + selection_set_levels c.args.style.now (selection_set_view bytes s) * c.args.style.now.indent < 2 ^ 32 = rw (← same) c.requires in
    search (rules, the_lemmas, fits)

pub write_optional_selection_set-returns-clause-text : goal.write_optional_selection_set-returns-clause-text
write_optional_selection_set-returns-clause-text g t c =
    let bytes = g.N.Names.bytes in
    let s = c.args.set.now in
    let some = some_layout bytes s c.args.style.now c.args.margin (some_items bytes s (sym c.is_empty.ensures ∙ c.if-is_empty.false)) in
    and_alone g.S.Sink.took g.met.S.Sink.took_more _ _ _ _ _ c.write_selection_set.ensures.text (sym (ap text_of some))

pub write_optional_selection_set-returns-then-is_empty-clause-text : goal.write_optional_selection_set-returns-then-is_empty-clause-text
write_optional_selection_set-returns-then-is_empty-clause-text g t c =
    let bytes = g.N.Names.bytes in
    let s = c.args.set.now in
    rw (nothing_layout bytes s c.args.style.now c.args.margin (no_items bytes s (sym c.is_empty.ensures ∙ c.if-is_empty.true)))
    c.push_str.ensures

pub write_optional_selection_set-returns-then-is_empty-clause-well_formed : goal.write_optional_selection_set-returns-then-is_empty-clause-well_formed
write_optional_selection_set-returns-then-is_empty-clause-well_formed g t c =
    let bytes = g.N.Names.bytes in
    let s = c.args.set.now in
    on_ok c.push_str.result (nothing_well_formed bytes s (no_items bytes s (sym c.is_empty.ensures ∙ c.if-is_empty.true)))
