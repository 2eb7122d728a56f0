use Rattle.std.proofs.Common.{rules, arith, ◌≡◌, ◌∙◌, ◌-◌, ◌∷◌, [], Some, true, codes, map, string_bytes, take, drop, length, sym, ap}
use Rattle.std.specs.Prelude.{nat_eq}
use Rattle.std.proofs.Math.ListN.{drop_of_length-le}
use Rattle.std.proofs.lemmas.List.{take_all, length-drop}
use Rattle.std.specs.Cmp.Lexicographic.{pointwise}
use Rattle.gql.specs.{styled_command}
use Rattle.gql.proofs.{means_one_styled, means_one_minify}
use Rattle.gql.proofs.command.read_words.Goals as goal

pub returns-in-len1-up : goal.returns-in-len1-up
returns-in-len1-up c =
    let options = drop 1 c.args.words.items in
    let slice = c.as_slice.result.now in
    let w = c.as_str-in-len1-up.result.now in
    let rest : take (length slice - 1) (drop 1 slice) ≡ options =
    take_all (length slice - 1) (drop 1 slice) (omega (arith, length-drop 1 slice)) ∙ ap (drop 1) c.as_slice.ensures.value in
    let words : map string_bytes c.args.words.items ≡ w ∷ map string_bytes options = search rules in
    let said : styled_command w ≡ Some c.in_ok-command-in-len1-up.command = search rules in
    means_one_styled _ _ w _ _ _ c.in_ok-style-in-len1-up.was c.style_of.ensures (words ∙ ap (λ os. w ∷ map string_bytes os) (sym rest)) said

pub returns-in-len1 : goal.returns-in-len1
returns-in-len1 c =
    let options = drop 1 c.args.words.items in
    let w = c.as_str.result.now in
    let words : map string_bytes c.args.words.items ≡ w ∷ map string_bytes options = search rules in
    let none : options ≡ [] = drop_of_length-le c.args.words.items {i = 1} (omega (arith, ap length c.as_slice.ensures.value, c.in-len1.len_below)) in
    let minify : pointwise nat_eq w (codes "minify") ≡ true = search rules in
    means_one_minify _ _ _ (words ∙ ap (λ os. w ∷ map string_bytes os) none) minify c.default.ensures
