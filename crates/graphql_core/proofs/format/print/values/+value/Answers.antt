use Rattle.std.proofs.Common.{rules, arith, ◌≡◌, ◌∙◌, ◌++◌, ◌^◌, ap, sym, refl, false, codes, append-nil}
use Rattle.std.proofs.lemmas.List.{at_drop_all}
use Rattle.graphql_core.specs.{text_of, variable, AreWellFormed, value_view, items_view, members_view, parts}
use Rattle.graphql_core.specs.{value_layout, items_layout, members_layout, items_levels, members_levels, pair_layout}
use Rattle.graphql_core.specs.declared.common.tree.Value.{the_lemmas}
use Rattle.graphql_core.proofs.{items_here, alike, and_alone, and_last, all_done, on_ok, all_hold, inside_fits, narrower}
use Rattle.graphql_core.proofs.{pair_text, enclosed_text, and_next, in_key_order}
use Rattle.graphql_core.proofs.format.print.values.+value.Goals as goal

-- ---- lists

pub write_list-inside-indented-requires : goal.write_list-inside-indented-requires
write_list-inside-indented-requires g t c =
    let fits = inside_fits c.args.style.now c.args.margin (items_levels c.args.style.now (items_view g.N.Names.bytes c.args.items.now))
    (2 ^ 32) c.requires in
    omega arith

pub write_list-items-init : goal.write_list-items-init
write_list-items-init g t c =
    let fits = inside_fits c.args.style.now c.args.margin (items_levels c.args.style.now (items_view g.N.Names.bytes c.args.items.now))
    (2 ^ 32) c.requires in
    record {
      bound = rw c.inside-indented.ensures fits;
      wrote = (codes "[", c.in_ok-push_str.ensures, refl);
      well_formed = λ h. h;
    }

pub write_list-write_value-requires : goal.write_list-write_value-requires
write_list-write_value-requires g t c κs within =
    let xs = c.args.items.now in
    let here = items_here _ _ g.N.Names.bytes xs c.items.item-index c.item-item.result (omega arith) c.item-item.is in
    let bound = rw here at c.items.invariant.bound in
    let fits = narrower _ _ _ c.args.style.now.indent (2 ^ 32) bound in
    search (rules, the_lemmas, fits.0)

pub write_list-items-preserved : goal.write_list-items-preserved
write_list-items-preserved g t c =
    let bytes = g.N.Names.bytes in
    let style = c.args.style.now in
    let margin = c.inside-indented.result in
    let xs = c.args.items.now in
    let here = items_here _ _ bytes xs c.items.item-index c.item-item.result (omega arith) c.item-item.is in
    let bound = rw here at c.items.invariant.bound in
    let fits = narrower _ _ _ style.indent (2 ^ 32) bound in
    let (done, wrote, rest) = c.items.invariant.wrote in
    record {
      bound = fits.1;
      wrote = and_next g.S.Sink.took g.met.S.Sink.took_more style margin c.items.is_later _ _ _ _ _ _ done _ wrote c.in_ok-write_before_part.ensures
          c.in_ok-write_value.ensures.text
          (ap (λ r. done ++ text_of (parts style margin c.items.is_later (items_layout style margin r))) (sym here) ∙ rest);
      well_formed = λ h. c.items.invariant.well_formed (rw here (c.in_ok-write_value.ensures.well_formed, h));
    }

pub write_list-returns-clause-text : goal.write_list-returns-clause-text
write_list-returns-clause-text g t c =
    let bytes = g.N.Names.bytes in
    let style = c.args.style.now in
    let margin = c.inside-indented.result in
    let (done, wrote, rest) = c.items.invariant.wrote in
    let left = at_drop_all
    (λ xs. text_of (parts style margin c.items.is_later
    (items_layout style margin (items_view bytes xs)))) c.args.items.now c.items.item-index (omega arith) in
    let all = all_done g.S.Sink.took g.met.S.Sink.took_more _ _ done _ _ wrote rest left in
    and_last g.S.Sink.took g.met.S.Sink.took_more _ _ _ _ _ _ _ all c.write_closer.ensures
    (enclosed_text style c.args.margin margin (codes "[") (codes "]")
    (λ m. items_layout style m (items_view bytes c.args.items.now)) c.inside-indented.ensures)

pub write_list-returns-clause-well_formed : goal.write_list-returns-clause-well_formed
write_list-returns-clause-well_formed g t c =
    on_ok c.write_closer.result
    (all_hold (items_view g.N.Names.bytes) c.args.items.now c.args.items.now c.items.item-index (omega arith) refl
    AreWellFormed tt c.items.invariant.well_formed)

-- ---- objects

pub write_object-inside-indented-requires : goal.write_object-inside-indented-requires
write_object-inside-indented-requires g t c =
    let fits = inside_fits c.args.style.now c.args.margin (members_levels c.args.style.now (members_view g.N.Names.bytes c.args.members.now.entries))
    (2 ^ 32) c.requires in
    omega arith

pub write_object-members-init : goal.write_object-members-init
write_object-members-init g t c =
    let bytes = g.N.Names.bytes in
    let fits = inside_fits c.args.style.now c.args.margin (members_levels c.args.style.now (members_view bytes c.args.members.now.entries))
    (2 ^ 32) c.requires in
    let whole : members_view bytes c.into_iter-name-iterator.result ≡ members_view bytes c.args.members.now.entries = search rules in
    record {
      bound = rw (whole, c.inside-indented.ensures) fits;
      wrote = (
        codes "{",
        c.in_ok-push_str.ensures,
        ap (λ ms. codes "{" ++ text_of
            (parts c.args.style.now c.inside-indented.result false (members_layout c.args.style.now c.inside-indented.result ms))) whole,
      );
      well_formed = λ h. rw whole at h;
    }

pub write_object-members-preserved : goal.write_object-members-preserved
write_object-members-preserved g t c =
    let more = g.met.S.Sink.took_more in
    let bytes = g.N.Names.bytes in
    let style = c.args.style.now in
    let margin = c.inside-indented.result in
    let bound = rw c.in-Some.ensures.steps at c.members.invariant.bound in
    let fits = narrower _ _ _ style.indent (2 ^ 32) bound in
    let (done, wrote, rest) = c.members.invariant.wrote in
    let value = value_view bytes c.in-Some.member.now in
    let part = pair_layout (bytes c.in-Some.name.now) (value_layout style margin value) in
    let pair : g.S.Sink.took c.write_before_part.new.out (text_of part) c.write_value.new.out = alike g.S.Sink.took more _ _ _ _
    (ap (λ n. (n ++ codes ": ") ++ text_of (value_layout style margin value)) c.view.ensures
    ∙ pair_text (bytes c.in-Some.name.now) (value_layout style margin value)) (more _ _ _ _ _ c.in_ok-write_label.ensures c.in_ok-write_value.ensures.text) in
    record {
      bound = fits.1;
      wrote = and_next g.S.Sink.took more style margin c.members.is_later part
          (members_layout style margin (members_view bytes c.next.new.self)) _ _ _ _ done _ wrote c.in_ok-write_before_part.ensures pair
          (ap (λ es. done ++ text_of (parts style margin c.members.is_later (members_layout style margin (members_view bytes es))))
          (sym c.in-Some.ensures.steps) ∙ rest);
      well_formed = λ h. c.members.invariant.well_formed (rw c.in-Some.ensures.steps (c.in_ok-write_value.ensures.well_formed, h));
    }

pub write_object-returns-clause-text : goal.write_object-returns-clause-text
write_object-returns-clause-text g t c =
    let style = c.args.style.now in
    let (done, wrote, rest) = c.members.invariant.wrote in
    let all = all_done g.S.Sink.took g.met.S.Sink.took_more _ _ done _ _ wrote rest (search rules) in
    and_last g.S.Sink.took g.met.S.Sink.took_more _ _ _ _ _ _ _ all c.write_closer.ensures
    (enclosed_text style c.args.margin c.inside-indented.result (codes "{") (codes "}")
    (λ m. members_layout style m (members_view g.N.Names.bytes c.args.members.now.entries)) c.inside-indented.ensures)

pub write_object-returns-clause-well_formed : goal.write_object-returns-clause-well_formed
write_object-returns-clause-well_formed g t c =
    let entries = c.args.members.now.entries in
    on_ok c.write_closer.result (
      in_key_order g.N.Names.bytes g.N.Value.Ord.cmp g.met.N.Names.cmp_by_bytes entries c.iter-name-items.ensures.ordered,
      c.members.invariant.well_formed (search rules),
    )

-- ---- values

pub write_value-returns-in-Variable-clause-text : goal.write_value-returns-in-Variable-clause-text
write_value-returns-in-Variable-clause-text g t c =
    let seen : variable c.view.result.now ≡ value_view g.N.Names.bytes c.args.value.now = search (rules, the_lemmas) in
    and_alone g.S.Sink.took g.met.S.Sink.took_more _ _ _ _ _ c.push_two.ensures
    (ap (λ r. codes "$" ++ r) (sym (append-nil c.view.result.now)) ∙ ap (λ v. text_of (value_layout c.args.style.now c.args.margin v)) seen)
