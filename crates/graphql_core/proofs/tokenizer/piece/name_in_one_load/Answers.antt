use Rattle.std.specs.List.{prefix_len}
use Rattle.std.proofs.Common.{◌≡◌, ℕ, suc, ◌+◌, ◌-◌, ◌<◌, ◌≤◌, List, ◌∷◌, true, drop, take, length, get_or, sym, ap, ◌∙◌, arith}
use Rattle.graphql_core.specs.{front, taken, is_name_start, is_name_continue}
use Rattle.graphql_core.specs.declared.tokenizer.token.Kind.TheVariants.{Name}
use Rattle.graphql_core.specs.declared.tokenizer.piece.Nesting.TheVariants.{Unchanged}
use Rattle.graphql_core.specs.steps.Front.{Takes}
use Rattle.graphql_core.proofs.{name_front, found_fits, ends_short, ends_within, front_run}
use Rattle.graphql_core.proofs.tokenizer.piece.name_in_one_load.Goals as goal

pub overflow_add-result : goal.overflow_add-result
overflow_add-result g c =
    omega (arith, ends_short is_name_continue 16 _ c.in_ok-rest.rest.now c.name_lanes-len.ensures c.if-len-eq-LANES.false)

pub lanes_from-requires-clause-within : goal.lanes_from-requires-clause-within
lanes_from-requires-clause-within g c =
    ends_short is_name_continue 16 _ c.in_ok-rest.rest.now c.name_lanes-len.ensures c.if-len-eq-LANES.false

-- the name at the front
holds : (text rest : List ℕ) (b n : ℕ) → text ≡ b ∷ rest → is_name_start (get_or text 0 0) ≡ true → n ≡ prefix_len is_name_continue (take 16 rest) → n < 16
    → 16 ≤ length rest → front text ≡ Takes (n + 1) Name Unchanged
holds text rest b n whole begins is few long =
    let len : prefix_len is_name_continue rest ≡ n = ends_within is_name_continue 16 rest long (omega (arith, is)) ∙ sym is in
    rw (whole, ← len) (name_front b rest (rw whole at begins))

pub returns-clause-is : goal.returns-clause-is
returns-clause-is g c =
    let rest = c.in_ok-rest.rest.now in
    let whole = sym c.as_bytes.ensures.value ∙ c.in_ok-rest.ensures.cases.0 in
    let few = ends_short is_name_continue 16 _ rest c.name_lanes-len.ensures c.if-len-eq-LANES.false in
    sym (ap taken (holds c.args.text.now rest c.in_ok-rest.field-0-0.now c.name_lanes-len.result whole c.requires.begins c.name_lanes-len.ensures few
    (omega (arith, c.requires.long, ap length whole))))

pub returns-clause-gap : goal.returns-clause-gap
returns-clause-gap g c =
    let few = ends_short is_name_continue 16 _ c.in_ok-rest.rest.now c.name_lanes-len.ensures c.if-len-eq-LANES.false in
    let n = c.name_lanes-len.result in
    let rest = c.in_ok-rest.rest.now in
    let more : n + 1 ≡ suc n = omega arith in
    let left : drop (n + 1) c.args.text.now ≡ drop n rest = ap (λ k. drop k c.args.text.now) more
    ∙ ap (drop (suc n)) (sym c.as_bytes.ensures.value ∙ c.in_ok-rest.ensures.cases.0) in
    rw left (omega (arith, c.lanes_from.ensures, front_run g.G.Gap.has (16 - n) (drop n rest)))

pub returns-clause-cuts : goal.returns-clause-cuts
returns-clause-cuts g c =
    (found_fits c.args.text.now (taken (Takes (c.name_lanes-len.result + 1) Name Unchanged)) (returns-clause-is g c) c.utf8.text).2
