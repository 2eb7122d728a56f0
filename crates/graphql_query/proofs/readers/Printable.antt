-- What the grammar derives from an input is printable.
use Rattle.std.proofs.Common.{◌≡◌, ◌≤◌, ℕ, true, List, ◌∷◌, codes, refl, arith}
use Rattle.graphql_core.proofs.{Nests, Anything, HasCapacity, capacity_nothing, capacity_leaf, capacity_both, capacity_first, capacity_second, capacity_stop, capacity_more, capacity_node}
use Rattle.graphql_core.proofs.{capacity_back, leaf_name, leaf_except, optional_arguments_printable, directives_printable, type_printable, some_printable}
use Rattle.graphql_core.proofs.{enclosed_printable, each_of_both, optional_default_printable, part_printable, Within}
use Rattle.std.specs.List.{AllByRecursion}
use Rattle.std.specs.Option.{IfSome}
use Rattle.graphql_core.specs.{Place, Expr, Many, Sym, ParseTree, Both, leaves, optional, is_below, IsName, shared}
use Rattle.graphql_core.specs.{shared_symbols, first_place, optional_list_of, enclosed_of, each_of, spelling_at, Items}
use Rattle.graphql_query.specs.{more, SelectionTree, SelectionSetTree, OperationKind, query_kind, mutation_kind, subscription_kind, DefinitionTree, operation}
use Rattle.graphql_query.specs.{DocumentTree, set, none, query, document_symbol, definition_symbol, operation_symbol, operation_body_symbol}
use Rattle.graphql_query.specs.{variable_definitions_symbol, variable_definition_symbol, selection_set_symbol, selection_symbol, field_symbol, alias_symbol}
use Rattle.graphql_query.specs.{fragment_spread_symbol, inline_fragment_symbol, type_condition_symbol, alias_of, type_condition_of, fragment_spread_of}
use Rattle.graphql_query.specs.{field_of, optional_selection_set_of, inline_fragment_of, selection_of, selection_set_of, selections_of, variable_definition_of}
use Rattle.graphql_query.specs.{keyword_operation_of, operation_of, definition_of, document_of, IsDocument, IsDocumentOf, queries, IsPrintable}
use Rattle.graphql_query.specs.{IsPrintableSet, ArePrintableSelections, IsPrintableVariable, IsPrintableDefinition, Selects, SelectsInside, SelectInside}
use Rattle.graphql_query.specs.{AllSelectInside, DefinitionSelects, selection_brackets, selected_brackets, selection_set_brackets, selections_brackets}
use Rattle.graphql_query.specs.{variable_definition_brackets, variable_definitions_brackets, definition_brackets, IsPrintableSelection}
use Rattle.graphql_query.proofs.readers.Readable.{tested_alike, written_goes_on}
use Rattle.graphql_core.proofs.values.Printable as values

-- ---- shared symbols

capacity_shared : {n : ℕ} {e : Expr} {x : ParseTree} → HasCapacity query n e x → is_below shared_symbols e ≡ true → HasCapacity shared n e x
capacity_shared {e = e} f b = capacity_back shared_symbols shared query written_goes_on f b (tested_alike e)

-- ---- selections

alias_printable : {n : ℕ} {x : ParseTree} → HasCapacity query n (optional (Sym alias_symbol)) x → IfSome (alias_of x) IsName
alias_printable (capacity_first (capacity_node (capacity_both n e) c)) = leaf_name refl n
alias_printable (capacity_second capacity_nothing) = tt

type_condition_printable : {n : ℕ} {x : ParseTree} → HasCapacity query n (Sym type_condition_symbol) x → IsName (type_condition_of x)
type_condition_printable (capacity_node (capacity_both o n) c) = leaf_name refl n

abbrev IsSelection : ℕ → SelectionTree → Type 0
IsSelection n s = IsPrintableSelection s × SelectsInside s × (selection_brackets s ≤ n)

abbrev IsSet : ℕ → SelectionSetTree → Type 0
IsSet n s = IsPrintableSet s × Selects s × SelectInside s × (selection_set_brackets s ≤ n)

-- a field opens at most as many brackets as a selection set in braces
selected_within : (s : SelectionSetTree) (n : ℕ) → selection_set_brackets s ≤ n → selected_brackets s ≤ n
selected_within (set o c none) n h = omega arith
selected_within (set o c (more f fs)) n h = h

fragment_spread_printable : {n : ℕ} {x : ParseTree} → HasCapacity query n (Sym fragment_spread_symbol) x → IsSelection n (fragment_spread_of x)
fragment_spread_printable (capacity_node (capacity_both dots (capacity_both (capacity_node n e) ds)) c) =
    let (are, b) = directives_printable (capacity_shared ds refl) in
    (((leaf_name refl n, (leaf_except (codes "on") refl n, tt)), are), tt, b)

mutual
  field_printable : {n : ℕ} {x : ParseTree} → HasCapacity query n (Sym field_symbol) x → IsSelection n (field_of x)
  field_printable (capacity_node (capacity_both {x = a} alias (capacity_both {x = m} called (capacity_both arguments (capacity_both ds s)))) c) =
      let (values, d) = optional_arguments_printable (capacity_shared arguments refl) in
      let (are, b) = directives_printable (capacity_shared ds refl) in
      let (is, inside, e) = selected_printable (first_place (leaves (Both a m))) s in
      ((alias_printable alias, leaf_name refl called, values, are, is), inside, omega arith)

  selected_printable : {n : ℕ} {x : ParseTree} (p : Place) → HasCapacity query n (optional (Sym selection_set_symbol)) x
      → IsPrintableSet (optional_selection_set_of p x) × SelectInside (optional_selection_set_of p x)
      × (selected_brackets (optional_selection_set_of p x) ≤ n)
  selected_printable {n} p (capacity_first {x = s} f) =
      let (is, selects, inside, b) = selection_set_printable f in
      (is, inside, selected_within (selection_set_of s) n b)
  selected_printable p (capacity_second capacity_nothing) = (tt, tt, omega arith)

  inline_fragment_printable : {n : ℕ} {x : ParseTree} → HasCapacity query n (Sym inline_fragment_symbol) x → IsSelection n (inline_fragment_of x)
  inline_fragment_printable (capacity_node (capacity_both dots (capacity_both condition (capacity_both ds s))) c) =
      let (are, b) = directives_printable (capacity_shared ds refl) in
      let (is, selects, inside, e) = selection_set_printable s in
      ((part_printable type_condition_of IsName (λ y. type_condition_printable) condition, are, is), (selects, inside), omega arith)

  selection_printable : {n : ℕ} {x : ParseTree} → HasCapacity query n (Sym selection_symbol) x → IsSelection n (selection_of x)
  selection_printable (capacity_node (capacity_first f) c) = field_printable f
  selection_printable (capacity_node (capacity_second (capacity_first f)) c) = fragment_spread_printable f
  selection_printable (capacity_node (capacity_second (capacity_second f)) c) = inline_fragment_printable f

  selection_set_printable : {n : ℕ} {x : ParseTree} → HasCapacity query n (Sym selection_set_symbol) x → IsSet n (selection_set_of x)
  selection_set_printable (capacity_node (capacity_both (capacity_leaf a l d) (capacity_both (capacity_both f fs) e)) c) =
      let (is, inside, b) = selection_printable f in
      let (are, all_inside, g) = selections_printable fs in
      ((is, are), tt, (inside, all_inside), omega arith)

  selections_printable : {n : ℕ} {x : ParseTree} → HasCapacity query n (Many (Sym selection_symbol)) x
      → ArePrintableSelections (selections_of x) × AllSelectInside (selections_of x) × (selections_brackets (selections_of x) ≤ n)
  selections_printable capacity_stop = (tt, tt, omega arith)
  selections_printable (capacity_more f fs) =
      let (is, inside, b) = selection_printable f in
      let (are, all_inside, g) = selections_printable fs in
      ((is, are), (inside, all_inside), omega arith)

-- ---- variables

variable_definition_printable : (n : ℕ) (x : ParseTree) → HasCapacity query n (Sym variable_definition_symbol) x
    → Within IsPrintableVariable variable_definition_brackets n (variable_definition_of x)
variable_definition_printable n _ (capacity_node (capacity_both sign (capacity_both called (capacity_both colon (capacity_both t (capacity_both v ds))))) c) =
    let (is, b) = type_printable (capacity_shared t refl) in
    let (default, d) = optional_default_printable (capacity_shared v refl) in
    let (are, e) = directives_printable (capacity_shared ds refl) in
    ((leaf_name refl called, is, default, are), omega arith)

variable_definitions_printable : {n : ℕ} {x : ParseTree} → HasCapacity query n (optional (Sym variable_definitions_symbol)) x
    → Within (AllByRecursion IsPrintableVariable) variable_definitions_brackets n (optional_list_of (enclosed_of variable_definition_of) x)
variable_definitions_printable = enclosed_printable variable_definition_symbol variable_definition_of IsPrintableVariable variable_definition_brackets
    variable_definition_printable refl refl (λ m. refl)

-- ---- definitions

abbrev IsDefinition : ℕ → DefinitionTree → Type 0
IsDefinition n d = IsPrintableDefinition d × DefinitionSelects d × (definition_brackets d ≤ n)

keyword_printable : {n : ℕ} {x : ParseTree} (kind : OperationKind) (w : ParseTree) → HasCapacity query n (Sym operation_body_symbol) x
    → IsDefinition n (operation (keyword_operation_of kind (Both w x)))
keyword_printable kind w (capacity_node (capacity_both called (capacity_both vs (capacity_both ds s))) c) =
    let (variables, d) = variable_definitions_printable vs in
    let (are, b) = directives_printable (capacity_shared ds refl) in
    let (is, selects, inside, e) = selection_set_printable s in
    ((part_printable spelling_at IsName (λ y. leaf_name refl) called, variables, are, is), (selects, inside), omega arith)

operation_printable : {n : ℕ} {x : ParseTree} → HasCapacity query n (Sym operation_symbol) x → IsDefinition n (operation_of x)
operation_printable (capacity_node (capacity_first s) c) = let (is, selects, inside, b) = selection_set_printable s in (is, (selects, inside), b)
operation_printable (capacity_node (capacity_second (capacity_first (capacity_both {x = w} k f))) c) = keyword_printable query_kind w f
operation_printable (capacity_node (capacity_second (capacity_second (capacity_first (capacity_both {x = w} k f)))) c) = keyword_printable mutation_kind w f
operation_printable (capacity_node (capacity_second (capacity_second (capacity_second (capacity_both {x = w} k f)))) c) = keyword_printable subscription_kind w f

definition_printable : {n : ℕ} {x : ParseTree} → HasCapacity query n (Sym definition_symbol) x → IsDefinition n (definition_of x)
definition_printable (capacity_node (capacity_first f) c) = operation_printable f
definition_printable (capacity_node (capacity_second (capacity_node (capacity_both w (capacity_both called (capacity_both condition (capacity_both ds s)))) e)) c) =
    let (are, b) = directives_printable (capacity_shared ds refl) in
    let (is, selects, inside, d) = selection_set_printable s in
    ((leaf_name refl called, type_condition_printable condition, are, is), (selects, inside), omega arith)

definition_within : (n : ℕ) (x : ParseTree) → HasCapacity query n (Sym definition_symbol) x
    → Within (λ d. IsPrintableDefinition d × DefinitionSelects d) definition_brackets n (definition_of x)
definition_within n x f = let (is, selects, b) = definition_printable f in ((is, selects), b)

-- ---- documents

document_printable : (x : ParseTree) → HasCapacity query 50 (Sym document_symbol) x → IsPrintable (document_of x)
document_printable _ (capacity_node (capacity_both {x = x} {y = xs} f fs) c) =
    let (are, b) = some_printable definition_symbol definition_of (λ d. IsPrintableDefinition d × DefinitionSelects d) definition_brackets definition_within
    (capacity_both f fs) in
    let (names, select) = each_of_both IsPrintableDefinition DefinitionSelects (definition_of x ∷ each_of definition_of xs) are in
    record { definition = tt; names = names; selections = select; depth = b }

pub items_printable : (i : Items) (d : DocumentTree) → Nests i.tokens 50 Anything → IsDocument i d → IsPrintable d
items_printable = values.tokens_printable queries refl IsPrintable document_printable

pub printable : (text : List ℕ) (d : DocumentTree) → IsDocumentOf text d → IsPrintable d
printable = values.text_printable queries refl IsPrintable document_printable
