-- Printable documents: those whose layouts parse back to them, if their values satisfy the invariants of their types.
use Rattle.std.specs.Prelude.{ℕ, ◌≤◌, [], ◌∷◌, codes}
use Rattle.std.specs.List.{AllByRecursion}
use Rattle.std.specs.Option.{IfSome}
use Rattle.graphql_core.specs.{IsName, IsNameBut, IsPrintableArgument, IsPrintableDirective, IsPrintableType}
use Rattle.graphql_core.specs.{IsPrintableDefault, in_brackets, most}
use Rattle.graphql_query.specs.Tree.{spread, more, SelectionTree, field, inline, SelectionSetTree, set, SelectionTrees}
use Rattle.graphql_query.specs.Tree.{none, VariableDefinitionTree, OperationTree, FragmentDefinitionTree}
use Rattle.graphql_query.specs.Tree.{DefinitionTree, short, operation, fragment, DocumentTree}
use Rattle.graphql_query.specs.TreeDepth.{definition_depth}

-- ---- names, types and values

abbrev mutual
  pub IsPrintableSelection : SelectionTree → Type 0
  IsPrintableSelection (field p alias n arguments ds s) =
      IfSome alias IsName × IsName n × AllByRecursion IsPrintableArgument arguments
      × AllByRecursion IsPrintableDirective ds × IsPrintableSet s
  IsPrintableSelection (spread p n ds) = IsNameBut (codes "on" ∷ []) n × AllByRecursion IsPrintableDirective ds
  IsPrintableSelection (inline p condition ds s) =
      IfSome condition IsName × AllByRecursion IsPrintableDirective ds × IsPrintableSet s

  pub IsPrintableSet : SelectionSetTree → Type 0
  IsPrintableSet (set o c ss) = ArePrintableSelections ss

  pub ArePrintableSelections : SelectionTrees → Type 0
  ArePrintableSelections none = Unit {0}
  ArePrintableSelections (more s ss) = IsPrintableSelection s × ArePrintableSelections ss

abbrev pub IsPrintableVariable : VariableDefinitionTree → Type 0
IsPrintableVariable v = IsName v.name × IsPrintableType v.var_type × IfSome v.default_value IsPrintableDefault
    × AllByRecursion IsPrintableDirective v.directives

abbrev pub IsPrintableOperation : OperationTree → Type 0
IsPrintableOperation o = IfSome o.name IsName × AllByRecursion IsPrintableVariable o.variables
    × AllByRecursion IsPrintableDirective o.directives × IsPrintableSet o.selected

abbrev pub IsPrintableFragment : FragmentDefinitionTree → Type 0
IsPrintableFragment f =
    IsName f.name × IsName f.condition × AllByRecursion IsPrintableDirective f.directives × IsPrintableSet f.selected

abbrev pub IsPrintableDefinition : DefinitionTree → Type 0
IsPrintableDefinition (short s) = IsPrintableSet s
IsPrintableDefinition (operation o) = IsPrintableOperation o
IsPrintableDefinition (fragment f) = IsPrintableFragment f

-- ---- selections

abbrev pub Selects : SelectionSetTree → Type 0
Selects (set o c none) = ⊥
Selects (set o c (more s ss)) = Unit {0}

abbrev mutual
  -- the selection sets inside have selections, except those of fields
  pub SelectsInside : SelectionTree → Type 0
  SelectsInside (field p alias n arguments ds s) = SelectInside s
  SelectsInside (spread p n ds) = Unit {0}
  SelectsInside (inline p condition ds s) = Selects s × SelectInside s

  pub SelectInside : SelectionSetTree → Type 0
  SelectInside (set o c ss) = AllSelectInside ss

  pub AllSelectInside : SelectionTrees → Type 0
  AllSelectInside none = Unit {0}
  AllSelectInside (more s ss) = SelectsInside s × AllSelectInside ss

abbrev pub selection_set_of_definition : DefinitionTree → SelectionSetTree
selection_set_of_definition (short s) = s
selection_set_of_definition (operation o) = o.selected
selection_set_of_definition (fragment f) = f.selected

abbrev pub DefinitionSelects : DefinitionTree → Type 0
DefinitionSelects d = Selects (selection_set_of_definition d) × SelectInside (selection_set_of_definition d)

-- ---- brackets that are open at once

abbrev pub definition_brackets : DefinitionTree → ℕ
definition_brackets = definition_depth in_brackets

-- ---- documents

abbrev pub HasDefinition : DocumentTree → Type 0
HasDefinition [] = ⊥
HasDefinition (d ∷ ds) = Unit {0}

-- the document is printable: if it also satisfies `IsWellFormedDocument`, its layout parses back to it, ignoring positions
pub record IsPrintable (d : DocumentTree) : Type 0 where
  pub definition : HasDefinition d
  -- names, types and values are printable
  pub names : AllByRecursion IsPrintableDefinition d
  pub selections : AllByRecursion DefinitionSelects d
  pub depth : most definition_brackets d ≤ 50
