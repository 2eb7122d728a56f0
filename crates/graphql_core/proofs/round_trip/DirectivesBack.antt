-- The layouts of arguments, directives and defaults parse back.
use Rattle.std.proofs.Common.{◌≡◌, ℕ, ◌+◌, ◌≤◌, Bool, true, false, List, [], ◌∷◌, ◌++◌, Option, Some, None, codes, refl, ap, ap₂, arith}
use Rattle.graphql_core.specs.{punctuator_part, gap, Many, Sym, optional, StyleOptions, ValueTree, DirectiveTree, no_place, erase, erase_all, value_layout}
use Rattle.graphql_core.specs.{parts}
use Rattle.graphql_core.specs.{inside, each_argument, arguments_layout, directive_layout, directives_layout, default_layout, shared, argument_symbol}
use Rattle.graphql_core.specs.{arguments_symbol, directive_symbol, directives_symbol, default_symbol, spelling_at, pairs_of, optional_arguments_of}
use Rattle.graphql_core.specs.{directive_of, directives_of, default_of, optional_default_of, IsPrintableArgument, IsPrintableDirective, IsPrintableDefault}
use Rattle.graphql_core.specs.{argument_brackets, arguments_brackets, directive_brackets, directives_brackets, value_brackets, most, IsWellFormed}
use Rattle.graphql_core.specs.{AreWellFormedArguments, AreWellFormedDirectives}
use Rattle.graphql_core.proofs.round_trip.ParsingBack.{Back, as_word_back, means, gap_back, word_back, punctuator_back, open_back, close_back, nothing_back}
use Rattle.graphql_core.proofs.round_trip.ParsingBack.{both_back, first_back, second_back, node_back, stop_back, more_back, three_back}
use Rattle.std.specs.List.{AllByRecursion}
use Rattle.std.specs.Option.{IfSome, option_map_or}
use Rattle.graphql_core.specs.declared.common.read.values.Constness.TheVariants.{Value, Constant}
use Rattle.graphql_core.proofs.round_trip.LeavesBack.{name_word}
use Rattle.graphql_core.proofs.round_trip.ValuesBack.{to_word, before_back, closer_back, pair_back, value_back}
use Rattle.graphql_core.proofs.round_trip.ListsBack.{each_after_back}

module _ (style : StyleOptions) where
  each_back : (margin : ℕ) (later : Bool) (args : List (List ℕ × ValueTree)) (d : ℕ) → AllByRecursion IsPrintableArgument args → AreWellFormedArguments args
      → d + most argument_brackets args ≤ 50
      → Back shared (Many (Sym argument_symbol)) later d (parts style margin later (each_argument style margin args)) true d (λ x. pairs_of x ≡ args)
  each_back margin later [] d is well_formed deep = to_word later (stop_back refl)
  each_back margin later (a ∷ args) d (is, are) (law, laws) deep =
      before_back style margin later (more_back (pair_back Value style margin a.0 a.1 d is.0 (value_back style Value margin a.1 d is.1 law tt (omega arith)))
      (each_back margin true args d are laws (omega arith))
      (λ x y hx hy. ap₂ (λ p ps. p ∷ ps) hx hy))

  pub arguments_back : (margin : ℕ) (args : List (List ℕ × ValueTree)) (d : ℕ) → AllByRecursion IsPrintableArgument args → AreWellFormedArguments args
      → d + arguments_brackets args ≤ 50
      → Back shared (optional (Sym arguments_symbol)) true d (arguments_layout style margin args) true d (λ x. optional_arguments_of x ≡ args)
  arguments_back margin [] d is well_formed deep = second_back (nothing_back refl)
  arguments_back margin (a ∷ args) d (is, are) (law, laws) deep =
      first_back (node_back (λ x. refl) (as_word_back (three_back {Q = λ x. pairs_of x ≡ a ∷ args}
      (open_back (codes "(") (refl, refl) (omega arith) (λ p. refl))
      (before_back style (inside style margin) false (both_back
      (pair_back Value style (inside style margin) a.0 a.1 (d + 1) is.0 (value_back style Value (inside style margin) a.1 (d + 1) is.1 law tt (omega arith)))
      (each_back (inside style margin) true args (d + 1) are laws (omega arith))
      (λ x y hx hy. ap₂ (λ p ps. p ∷ ps) hx hy)))
      (closer_back style margin (codes ")") (close_back (codes ")") (refl, refl) (λ p. refl)))
      (λ o x c ho hx hc. hx))))

  directive_back : (margin : ℕ) (t : DirectiveTree) (d : ℕ) → IsPrintableDirective t → AreWellFormedArguments t.arguments → d + directive_brackets t ≤ 50
      → Back shared (Sym directive_symbol) false d (directive_layout style margin t) true d (λ x. erase (directive_of x) ≡ erase t)
  directive_back margin t d is well_formed deep =
      node_back (λ x. refl) (three_back {Q = λ x. spelling_at x ≡ t.name}
      (punctuator_back (codes "@") (refl, refl) (λ p. refl))
      (word_back (name_word t.name is.0) (λ p. refl) (λ t e. e))
      (arguments_back margin t.arguments d is.1 well_formed deep)
      (λ a n o ha hn ho. λ i. record { position = no_place; name = hn i; arguments = ho i }))

  pub directives_back : (margin : ℕ) (ts : List DirectiveTree) (d : ℕ) → AllByRecursion IsPrintableDirective ts → AreWellFormedDirectives ts
      → d + directives_brackets ts ≤ 50
      → Back shared (Sym directives_symbol) true d (directives_layout style margin ts) true d (λ x. erase_all (directives_of x) ≡ erase_all ts)
  directives_back margin ts d is well_formed deep =
      node_back (λ x. refl) (each_after_back d directive_of erase (directive_layout style margin) IsPrintableDirective (λ t. AreWellFormedArguments t.arguments)
      directive_brackets (λ t p q b. directive_back margin t d p q b) 32 [] refl ts is well_formed deep)

  -- what comes after the first space of an optional default
  pub default_back : (margin : ℕ) (v : ValueTree) (d : ℕ) → IsPrintableDefault v → IsWellFormed v → d + value_brackets v ≤ 50
      → Back shared (Sym default_symbol) false d (punctuator_part (codes "=") ++ (gap (codes " ") ++ value_layout style margin v)) true
      d (λ x. default_of x ≡ v)
  default_back margin v d (is, constant) well_formed deep =
      node_back (λ x. refl) (both_back (punctuator_back (codes "=") (refl, refl) (λ p. refl))
      (gap_back refl (value_back style Constant margin v d is well_formed constant deep)) (λ e x he hx. hx))

  -- an optional default
  pub optional_default_back : (margin : ℕ) (v : Option ValueTree) (d : ℕ) → IfSome v IsPrintableDefault → IfSome v IsWellFormed
      → d + option_map_or value_brackets v 0 ≤ 50
      → Back shared (optional (Sym default_symbol)) true d (default_layout style margin v) true d (λ x. optional_default_of x ≡ v)
  optional_default_back margin None d is well_formed deep = second_back (nothing_back refl)
  optional_default_back margin (Some v) d is well_formed deep = first_back (gap_back refl (means (λ x h. ap Some h) (default_back margin v d is well_formed deep)))
