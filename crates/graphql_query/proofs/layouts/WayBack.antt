-- The layouts of query documents parse back to them, ignoring positions.
use Rattle.std.proofs.Common.{◌≡◌, ℕ, ◌+◌, ◌<◌, ◌≤◌, Bool, true, false, List, [], ◌∷◌, ◌++◌, Option, Some, None, codes, map, refl, ap, ap₂, arith}
use Rattle.graphql_core.specs.{name_part, Place, Expr, Many, Sym, ParseTree, Both, leaves, optional, is_below, IsName, StyleOptions, Part, gap, ValueTree}
use Rattle.graphql_core.specs.{DirectiveTree, no_place, erase_all, arguments_layout, directives_layout, shared, arguments_symbol, directives_symbol}
use Rattle.graphql_core.specs.{shared_symbols, place_at, first_place, spelling_at, optional_arguments_of, directives_of, IsNameBut, IsPrintableArgument}
use Rattle.graphql_core.specs.{IsPrintableDirective, arguments_brackets, directives_brackets, in_braces, AreWellFormedArguments, AreWellFormedDirectives, optional_of}
use Rattle.graphql_core.specs.{optional_list_of, enclosed_of, OutputsParseBack, name}
use Rattle.graphql_core.proofs.{Takes, as_word_back, open_back, close_back, dots_back, four_back, five_back, six_back, lift_back, name_word, not_listed}
use Rattle.graphql_core.proofs.{type_back, Any, means, margin_back, gap_back, then_gap, word_back, punctuator_back, nothing_back, both_back, first_back}
use Rattle.graphql_core.proofs.{second_back, node_back, stop_back, more_back, three_back, spaces_blank, both_of_each, some_back, in_parentheses_back}
use Rattle.graphql_core.proofs.{document_back, arguments_back, directives_back, optional_default_back, Back}
use Rattle.std.specs.List.{AllByRecursion}
use Rattle.std.specs.Option.{IfSome}
use Rattle.graphql_core.specs.declared.tokenizer.token.Kind.TheVariants.{Name}
use Rattle.graphql_query.specs.{spread, more, SelectionTree, SelectionSetTree, SelectionTrees, OperationKind, query_kind, mutation_kind, subscription_kind}
use Rattle.graphql_query.specs.{VariableDefinitionTree, OperationTree, DefinitionTree, short, operation, fragment, DocumentTree, erase_selection}
use Rattle.graphql_query.specs.{erase_selection_set, erase_selections, erase_variable_definition, erase_operation, erase_definition, field, inline, set, none}
use Rattle.graphql_query.specs.{query, spread_class, definition_symbol, operation_symbol, operation_body_symbol, variable_definitions_symbol}
use Rattle.graphql_query.specs.{variable_definition_symbol, selection_set_symbol, selection_symbol, alias_symbol, type_condition_symbol, spread_name_of}
use Rattle.graphql_query.specs.{alias_of, type_condition_of, optional_selection_set_of, selection_of, selection_set_of, selections_of, variable_definition_of}
use Rattle.graphql_query.specs.{operation_body_of, operation_of, definition_of, alias_layout, type_condition_layout, on_layout, selection_layout}
use Rattle.graphql_query.specs.{selected_layout, selection_set_layout, selections_layout, keyword, operation_name_layout, variable_definition_layout}
use Rattle.graphql_query.specs.{variable_definitions_layout, definition_layout, layout, IsPrintable, IsPrintableSelection, IsPrintableSet}
use Rattle.graphql_query.specs.{ArePrintableSelections, IsPrintableVariable, IsPrintableOperation, IsPrintableDefinition, Selects, SelectsInside, SelectInside}
use Rattle.graphql_query.specs.{AllSelectInside, DefinitionSelects, selection_brackets, selected_brackets, selection_set_brackets, selections_brackets}
use Rattle.graphql_query.specs.{variable_definition_brackets, variable_definitions_brackets, definition_brackets, queries, ParsesBackTo, IsWellFormedSelection}
use Rattle.graphql_query.specs.{IsWellFormedSet, AreWellFormedSelections, IsWellFormedVariable, IsWellFormedDefinition, IsWellFormedDocument}
use Rattle.graphql_query.proofs.readers.{tested_alike, written_goes_on, readable}
use Rattle.graphql_query.proofs.layouts.NoPositions.{layout_alike}
use Rattle.graphql_core.proofs.documents.RoundTrip as round

-- what parses back in the shared grammar also parses back in queries
shared_back : {e : Expr} {p q : Bool} {d f : ℕ} {ps : List Part} {R : ParseTree → Type 0} → is_below shared_symbols e ≡ true → Back shared e p d ps q f R
    → Back query e p d ps q f R
shared_back {e} below b = lift_back written_goes_on below (tested_alike e) b

-- any name
named_back : (n : List ℕ) (d : ℕ) → IsName n → Back query name false d (name_part n) true d (λ x. spelling_at x ≡ n)
named_back n d is = word_back (name_word n is) (λ p. refl) (λ t e. e)

-- ---- parts of selections

alias_back : (a : Option (List ℕ)) (d : ℕ) → IfSome a IsName → Back query (optional (Sym alias_symbol)) false d (alias_layout a) false d (λ x. alias_of x ≡ a)
alias_back None d is = second_back (nothing_back refl)
alias_back (Some a) d is =
    first_back (node_back (λ x. refl) (both_back (named_back a d is) (then_gap 32 [] refl (punctuator_back (codes ":") (refl, refl) (λ p. refl)))
    (λ x c hx hc. ap Some hx)))

type_condition_back : (c : List ℕ) (d : ℕ) → IsName c
    → Back query (Sym type_condition_symbol) false d (type_condition_layout c) true d (λ x. type_condition_of x ≡ c)
type_condition_back c d is =
    node_back (λ x. refl) (both_back {P = Any} (word_back (name_word (codes "on") (refl, refl)) (λ p. refl) (λ t e. tt)) (gap_back refl (named_back c d is))
    (λ o x ho hx. hx))

on_back : (c : Option (List ℕ)) (d : ℕ) → IfSome c IsName
    → Back query (optional (Sym type_condition_symbol)) false d (on_layout c) true d (λ x. optional_of type_condition_of x ≡ c)
on_back None d is = as_word_back (second_back (nothing_back refl))
on_back (Some c) d is = first_back (gap_back refl (means (λ x h. ap Some h) (type_condition_back c d is)))

fragment_spread_takes : (n : List ℕ) → IsNameBut (codes "on" ∷ []) n → Takes query spread_class Name n
fragment_spread_takes n (is, other) p = rw (not_listed n (codes "on" ∷ []) other) refl

-- ---- selections

module _ (style : StyleOptions) where
  args : (margin : ℕ) (arguments : List (List ℕ × ValueTree)) (d : ℕ) → AllByRecursion IsPrintableArgument arguments → AreWellFormedArguments arguments
      → d + arguments_brackets arguments ≤ 50
      → Back query (optional (Sym arguments_symbol)) true d (arguments_layout style margin arguments) true d (λ x. optional_arguments_of x ≡ arguments)
  args margin arguments d is well_formed deep = shared_back refl (arguments_back style margin arguments d is well_formed deep)

  dirs : (margin : ℕ) (ds : List DirectiveTree) (d : ℕ) → AllByRecursion IsPrintableDirective ds → AreWellFormedDirectives ds → d + directives_brackets ds ≤ 50
      → Back query (Sym directives_symbol) true d (directives_layout style margin ds) true d (λ x. erase_all (directives_of x) ≡ erase_all ds)
  dirs margin ds d is well_formed deep = shared_back refl (directives_back style margin ds d is well_formed deep)

  -- selections in braces
  braces_back : (margin : ℕ) (o c : Place) (s : SelectionTree) (ss : SelectionTrees) (d : ℕ) → d < 50
      → Back query (Sym selection_symbol) false (d + 1) (selection_layout style (margin + style.indent) s) false (d + 1)
      (λ x. erase_selection (selection_of x) ≡ erase_selection s)
      → Back query (Many (Sym selection_symbol)) false (d + 1) (selections_layout style (margin + style.indent) ss) false (d + 1)
      (λ x. erase_selections (selections_of x) ≡ erase_selections ss)
      → Back query (Sym selection_set_symbol) false d (in_braces margin (selections_layout style (margin + style.indent) (more s ss))) false d
      (λ x. erase_selection_set (selection_set_of x) ≡ erase_selection_set (set o c (more s ss)))
  braces_back margin o c s ss d capacity one others =
      node_back (λ x. refl) (three_back {Q = λ x. erase_selections (selections_of x) ≡ erase_selections (more s ss)}
      (open_back (codes "{") (refl, refl) capacity (λ p. refl))
      (gap_back refl (both_back one others (λ x y hx hy. ap₂ more hx hy)))
      (margin_back (spaces_blank margin) (then_gap 10 [] refl (close_back (codes "}") (refl, refl) (λ p. refl))))
      (λ x y z hx hy hz. ap (set no_place no_place) hy))

  mutual
    selection_back : (margin : ℕ) (s : SelectionTree) (d : ℕ) → IsPrintableSelection s → SelectsInside s → IsWellFormedSelection s → d + selection_brackets s ≤ 50
        → Back query (Sym selection_symbol) false d (selection_layout style margin s) false d (λ x. erase_selection (selection_of x) ≡ erase_selection s)
    selection_back margin (field p a n arguments ds s) d (alias, is, arg, dir, sel) inside (arglaw, dirlaw, law) deep =
        margin_back (spaces_blank margin) (node_back (λ x. refl) (first_back (node_back (λ x. refl) (five_back
        (alias_back a d alias) (named_back n d is) (args margin arguments d arg arglaw (omega arith)) (dirs margin ds d dir dirlaw (omega arith))
        (selected_back margin s d sel inside law (omega arith))
        (λ x y z w k hx hy hz hw hk. λ i. field no_place (hx i) (hy i) (hz i) (hw i) (hk (first_place (leaves (Both x y))) i))))))
    selection_back margin (spread p n ds) d (is, dir) inside dirlaw deep =
        margin_back (spaces_blank margin) (node_back (λ x. refl) (second_back (first_back (node_back (λ x. refl) (three_back
        (dots_back (λ p. refl))
        (node_back {R = λ x. (spread_name_of x).1 ≡ n} (λ x. refl) (word_back (name_word n is.0) (fragment_spread_takes n is) (λ t e. e)))
        (then_gap 10 [] refl (dirs margin ds d dir dirlaw deep))
        (λ x y z hx hy hz. λ i. spread no_place (hy i) (hz i)))))))
    selection_back margin (inline p c ds s) d (is, dir, sel) inside (dirlaw, law) deep =
        margin_back (spaces_blank margin) (node_back (λ x. refl) (second_back (second_back (node_back (λ x. refl) (four_back
        (dots_back (λ p. refl)) (on_back c d is) (dirs margin ds d dir dirlaw (omega arith))
        (gap_back refl (selection_set_back margin s d sel inside.0 inside.1 law (omega arith)))
        (λ x y z w hx hy hz hw. λ i. inline no_place (hy i) (hz i) (hw i)))))))

    selected_back : (margin : ℕ) (s : SelectionSetTree) (d : ℕ) → IsPrintableSet s → SelectInside s → IsWellFormedSet s → d + selected_brackets s ≤ 50
        → Back query (optional (Sym selection_set_symbol)) true d (selected_layout style margin s) false d
        (λ x. (p : Place) → erase_selection_set (optional_selection_set_of p x) ≡ erase_selection_set s)
    selected_back margin (set o c none) d is inside law deep = gap_back refl (second_back (nothing_back (λ p. refl)))
    selected_back margin (set o c (more s ss)) d (is, are) (one, others) (law, laws) deep =
        gap_back refl (first_back (means (λ x h p. h) (braces_back margin o c s ss d (omega arith)
        (selection_back (margin + style.indent) s (d + 1) is one law (omega arith))
        (selections_back (margin + style.indent) ss (d + 1) are others laws (omega arith)))))

    selection_set_back : (margin : ℕ) (s : SelectionSetTree) (d : ℕ) → IsPrintableSet s → Selects s → SelectInside s → IsWellFormedSet s
        → d + selection_set_brackets s ≤ 50
        → Back query (Sym selection_set_symbol) false d (selection_set_layout style margin s) false d
        (λ x. erase_selection_set (selection_set_of x) ≡ erase_selection_set s)
    selection_set_back margin (set o c none) d is some inside law deep = absurd some
    selection_set_back margin (set o c (more s ss)) d (is, are) some (one, others) (law, laws) deep =
        braces_back margin o c s ss d (omega arith) (selection_back (margin + style.indent) s (d + 1) is one law (omega arith))
        (selections_back (margin + style.indent) ss (d + 1) are others laws (omega arith))

    selections_back : (margin : ℕ) (ss : SelectionTrees) (d : ℕ) → ArePrintableSelections ss → AllSelectInside ss → AreWellFormedSelections ss
        → d + selections_brackets ss ≤ 50
        → Back query (Many (Sym selection_symbol)) false d (selections_layout style margin ss) false d
        (λ x. erase_selections (selections_of x) ≡ erase_selections ss)
    selections_back margin none d is inside law deep = stop_back refl
    selections_back margin (more s ss) d (is, are) (one, others) (law, laws) deep =
        more_back (selection_back margin s d is one law (omega arith)) (selections_back margin ss d are others laws (omega arith)) (λ x y hx hy. ap₂ more hx hy)

  -- ---- variables

  variable_definition_back : (v : VariableDefinitionTree) (d : ℕ) → IsPrintableVariable v → IsWellFormedVariable v → d + variable_definition_brackets v ≤ 50
      → Back query (Sym variable_definition_symbol) false d (variable_definition_layout style v) true d
      (λ x. erase_variable_definition (variable_definition_of x) ≡ erase_variable_definition v)
  variable_definition_back v d (is, type, default, dir) (defaultlaw, dirlaw) deep =
      node_back (λ x. refl) (six_back
      (punctuator_back (codes "$") (refl, refl) (λ p. refl)) (named_back v.name d is) (punctuator_back (codes ":") (refl, refl) (λ p. refl))
      (gap_back refl (shared_back refl (type_back v.var_type d type (omega arith))))
      (shared_back refl (optional_default_back style 0 v.default_value d default defaultlaw (omega arith)))
      (dirs 0 v.directives d dir dirlaw (omega arith))
      (λ x y z w k l hx hy hz hw hk hl. λ i.
      record { position = no_place; name = hy i; var_type = hw i; default_value = hk i; directives = hl i }))

  variable_definitions_back : (vs : List VariableDefinitionTree) (d : ℕ) → AllByRecursion IsPrintableVariable vs → AllByRecursion IsWellFormedVariable vs
      → d + variable_definitions_brackets vs ≤ 50
      → Back query (optional (Sym variable_definitions_symbol)) true d (variable_definitions_layout style vs) true d
      (λ x. map erase_variable_definition (optional_list_of (enclosed_of variable_definition_of) x) ≡ map erase_variable_definition vs)
  variable_definitions_back =
      in_parentheses_back variable_definition_of erase_variable_definition (variable_definition_layout style) IsPrintableVariable IsWellFormedVariable
      variable_definition_brackets refl (λ x. refl) (λ p. refl) (λ p. refl) variable_definition_back

  -- ---- definitions

  operation_name_back : (n : Option (List ℕ)) (d : ℕ) → IfSome n IsName
      → Back query (optional name) true d (operation_name_layout n) true d (λ x. optional_of spelling_at x ≡ n)
  operation_name_back None d is = second_back (nothing_back refl)
  operation_name_back (Some n) d is = first_back (gap_back refl (means (λ x h. ap Some h) (named_back n d is)))

  -- what follows the keyword of an operation
  operation_body_back : (o : OperationTree) (d : ℕ) → IsPrintableOperation o → Selects o.selected → SelectInside o.selected → IsWellFormedDefinition (operation o)
      → d + definition_brackets (operation o) ≤ 50
      → Back query (Sym operation_body_symbol) true d (operation_name_layout o.name ++ (variable_definitions_layout style o.variables
      ++ (directives_layout style 0 o.directives ++ (gap (codes " ") ++ selection_set_layout style 0 o.selected)))) false d
      (λ x. (k : OperationKind) (p : Place) → k ≡ o.kind
      → erase_operation (record {
        kind = k;
        position = p;
        name = (operation_body_of x).name;
        variables = (operation_body_of x).variables;
        directives = (operation_body_of x).directives;
        selected = (operation_body_of x).selected;
      }) ≡ erase_operation o)
  operation_body_back o d (n, vs, dir, sel) some inside (varlaw, dirlaw, law) deep =
      node_back (λ x. refl) (four_back
      (operation_name_back o.name d n) (variable_definitions_back o.variables d vs varlaw (omega arith)) (dirs 0 o.directives d dir dirlaw (omega arith))
      (gap_back refl (selection_set_back 0 o.selected d sel some inside law (omega arith)))
      (λ x y z w hx hy hz hw k p e. λ i. record { kind = e i; position = no_place; name = hx i; variables = hy i; directives = hz i; selected = hw i }))

  operation_back : (k : OperationKind) (o : OperationTree) (d : ℕ) → k ≡ o.kind → IsPrintableOperation o → Selects o.selected → SelectInside o.selected
      → IsWellFormedDefinition (operation o) → d + definition_brackets (operation o) ≤ 50
      → Back query (Sym operation_symbol) false d
      (name_part (keyword k) ++ (operation_name_layout o.name
      ++ (variable_definitions_layout style o.variables
      ++ (directives_layout style 0 o.directives ++ (gap (codes " ") ++ selection_set_layout style 0 o.selected))))) false d
      (λ x. erase_definition (operation_of x) ≡ operation (erase_operation o))
  operation_back query_kind o d e is some inside law deep =
      node_back (λ x. refl) (second_back (first_back (both_back {P = Any} (word_back (name_word (codes "query") (refl, refl)) (λ p. refl) (λ t e. tt))
      (operation_body_back o d is some inside law deep) (λ w x hw hx. ap operation (hx query_kind (place_at w) e)))))
  operation_back mutation_kind o d e is some inside law deep =
      node_back (λ x. refl) (second_back (second_back (first_back (both_back {P = Any} (word_back (name_word (codes "mutation") (refl, refl)) (λ p. refl)
      (λ t e. tt)) (operation_body_back o d is some inside law deep) (λ w x hw hx. ap operation (hx mutation_kind (place_at w) e))))))
  operation_back subscription_kind o d e is some inside law deep =
      node_back (λ x. refl) (second_back (second_back (second_back (both_back {P = Any} (word_back (name_word (codes "subscription") (refl, refl)) (λ p. refl)
      (λ t e. tt)) (operation_body_back o d is some inside law deep) (λ w x hw hx. ap operation (hx subscription_kind (place_at w) e))))))

  definition_back : (t : DefinitionTree) (d : ℕ) → IsPrintableDefinition t → DefinitionSelects t → IsWellFormedDefinition t → d + definition_brackets t ≤ 50
      → Back query (Sym definition_symbol) false d (definition_layout style t) false d (λ x. erase_definition (definition_of x) ≡ erase_definition t)
  definition_back (short s) d is (some, inside) law deep =
      node_back (λ x. refl) (first_back (node_back (λ x. refl) (first_back (means (λ x h. ap short h) (selection_set_back 0 s d is some inside law deep)))))
  definition_back (operation o) d is (some, inside) law deep = node_back (λ x. refl) (first_back (operation_back o.kind o d refl is some inside law deep))
  definition_back (fragment f) d (n, c, dir, sel) (some, inside) (dirlaw, law) deep =
      node_back (λ x. refl) (second_back (node_back (λ x. refl) (five_back {P = Any}
      (word_back (name_word (codes "fragment") (refl, refl)) (λ p. refl) (λ t e. tt)) (gap_back refl (named_back f.name d n))
      (gap_back refl (type_condition_back f.condition d c))
      (dirs 0 f.directives d dir dirlaw (omega arith)) (gap_back refl (selection_set_back 0 f.selected d sel some inside law (omega arith)))
      (λ x y z w k hx hy hz hw hk. λ i. fragment (record { position = no_place; name = hy i; condition = hz i; directives = hw i; selected = hk i })))))

  -- ---- documents

  -- the layout of a printable document parses back to it, ignoring positions
  pub way_back : (ts : DocumentTree) → IsPrintable ts → IsWellFormedDocument ts → ParsesBackTo (layout style ts) ts
  way_back [] is law = absurd is.definition
  way_back (t ∷ ts) is law =
      document_back queries (t ∷ ts) (node_back (λ x. refl) (some_back 0 definition_of erase_definition (definition_layout style) IsPrintableDefinition
      (λ u. DefinitionSelects u × IsWellFormedDefinition u) definition_brackets (λ u p h b. definition_back u 0 p h.0 h.1 b) 10 [] refl t ts
      is.names (both_of_each DefinitionSelects IsWellFormedDefinition (t ∷ ts) is.selections law) (omega (arith, is.depth))))

pub parse_back : OutputsParseBack queries layout (λ d. IsPrintable d × IsWellFormedDocument d)
parse_back = round.parse_back queries readable layout layout_alike (λ d. IsPrintable d × IsWellFormedDocument d) (λ style d is. way_back style d is.0 is.1)
