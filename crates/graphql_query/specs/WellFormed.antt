-- The invariants of values, which hold in every document that a program can build.
use Rattle.std.specs.Prelude.{List}
use Rattle.std.specs.List.{AllByRecursion}
use Rattle.std.specs.Option.{IfSome}
use Rattle.graphql_core.specs.{IsWellFormed, AreWellFormedArguments, AreWellFormedDirectives}
use Rattle.graphql_query.specs.Tree.{spread, more, SelectionTree, field, inline, SelectionSetTree, set, SelectionTrees}
use Rattle.graphql_query.specs.Tree.{none, VariableDefinitionTree, FragmentDefinitionTree, DefinitionTree, short}
use Rattle.graphql_query.specs.Tree.{operation, fragment, DocumentTree}

abbrev mutual
  pub IsWellFormedSelection : SelectionTree → Type 0
  IsWellFormedSelection (field p a n arguments ds s) = AreWellFormedArguments arguments × AreWellFormedDirectives ds × IsWellFormedSet s
  IsWellFormedSelection (spread p n ds) = AreWellFormedDirectives ds
  IsWellFormedSelection (inline p c ds s) = AreWellFormedDirectives ds × IsWellFormedSet s

  pub IsWellFormedSet : SelectionSetTree → Type 0
  IsWellFormedSet (set o c ss) = AreWellFormedSelections ss

  pub AreWellFormedSelections : SelectionTrees → Type 0
  AreWellFormedSelections none = Unit {0}
  AreWellFormedSelections (more s ss) = IsWellFormedSelection s × AreWellFormedSelections ss

abbrev pub IsWellFormedVariable : VariableDefinitionTree → Type 0
IsWellFormedVariable v = IfSome v.default_value IsWellFormed × AreWellFormedDirectives v.directives

abbrev pub AreWellFormedVariables : List VariableDefinitionTree → Type 0
AreWellFormedVariables = AllByRecursion IsWellFormedVariable

abbrev pub IsWellFormedFragment : FragmentDefinitionTree → Type 0
IsWellFormedFragment f = AreWellFormedDirectives f.directives × IsWellFormedSet f.selected

abbrev pub IsWellFormedDefinition : DefinitionTree → Type 0
IsWellFormedDefinition (short s) = IsWellFormedSet s
IsWellFormedDefinition (operation o) =
    AreWellFormedVariables o.variables × AreWellFormedDirectives o.directives × IsWellFormedSet o.selected
IsWellFormedDefinition (fragment f) = IsWellFormedFragment f

abbrev pub IsWellFormedDocument : DocumentTree → Type 0
IsWellFormedDocument = AllByRecursion IsWellFormedDefinition
