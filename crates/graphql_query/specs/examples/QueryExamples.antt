-- The documents of some small inputs, and how these documents are formatted.
use Rattle.std.specs.Prelude.{◌≡◌, ℕ, ◌+◌, List, [], ◌∷◌, ◌++◌, Some, None, codes}
use Rattle.graphql_core.specs.{Place, default_style}
use Rattle.graphql_query.specs.Tree.{spread, more, SelectionTree, field, SelectionSetTree, set, none, no_selection_set}
use Rattle.graphql_query.specs.Tree.{DefinitionTree, short, operation, query_kind, DocumentTree}
use Rattle.graphql_query.specs.Document.{IsDocumentOf}
use Rattle.graphql_query.specs.Layout.{layout}

abbrev at : ℕ → ℕ → Place
at line column = record { line = line; column = column }

-- a field with this name and this selection set only
abbrev plain : ℕ → ℕ → List ℕ → SelectionSetTree → SelectionTree
plain line column name selected = field (at line column) None name [] [] selected

-- `{ a { b } }`
abbrev pub nested : DocumentTree
nested = short (set (at 1 1) (at 1 11)
    (more (plain 1 3 (codes "a")
    (set (at 1 5) (at 1 9) (more (plain 1 7 (codes "b") (no_selection_set (at 1 7))) none))) none)) ∷ []

-- a selection set of one field
abbrev alone : ℕ → ℕ → List ℕ → DefinitionTree
alone line column name = short
    (set (at line column) (at line (column + 4))
    (more (plain line (column + 2) name (no_selection_set (at line (column + 2)))) none))

abbrev pub Nested : Type 0
Nested = IsDocumentOf (codes "{ a { b } }") nested

abbrev pub TwoDefinitions : Type 0
TwoDefinitions = IsDocumentOf (codes "{ a } { b }") (alone 1 1 (codes "a") ∷ alone 1 7 (codes "b") ∷ [])

-- a comment that ends in CR LF ends one line
abbrev pub CommentReturnFeed : Type 0
CommentReturnFeed = IsDocumentOf (codes "# c" ++ 13 ∷ 10 ∷ codes "{ a }") (alone 2 1 (codes "a") ∷ [])

-- a comment that ends in CR also ends one line
abbrev pub CommentReturn : Type 0
CommentReturn = IsDocumentOf (codes "# c" ++ 13 ∷ codes "{ a }") (alone 2 1 (codes "a") ∷ [])

-- U+FEFF takes no column
abbrev pub ByteOrderMark : Type 0
ByteOrderMark = IsDocumentOf (239 ∷ 187 ∷ 191 ∷ codes "{ a }") (alone 1 1 (codes "a") ∷ [])

-- `query Q { b: c ...G }`: a field is at its alias, and a spread is at its name
abbrev pub named : DocumentTree
named = operation (record {
  kind = query_kind;
  position = at 1 1;
  name = Some (codes "Q");
  variables = [];
  directives = [];
  selected = set (at 1 9) (at 1 21)
      (more (field (at 1 11) (Some (codes "b")) (codes "c") [] [] (no_selection_set (at 1 11)))
      (more (spread (at 1 19) (codes "G") []) none));
}) ∷ []

abbrev pub Named : Type 0
Named = IsDocumentOf (codes "query Q { b: c ...G }") named

abbrev pub NestedLayout : Type 0
NestedLayout = layout default_style nested ≡ codes "{" ++ 10 ∷ codes "  a {" ++ 10 ∷ codes "    b" ++ 10 ∷ codes "  }"
    ++ 10 ∷ codes "}" ++ 10 ∷ []

abbrev pub TwoDefinitionsLayout : Type 0
TwoDefinitionsLayout = layout default_style (alone 1 1 (codes "a") ∷ alone 1 7 (codes "b") ∷ [])
    ≡ codes "{" ++ 10 ∷ codes "  a" ++ 10 ∷ codes "}" ++ 10 ∷ 10 ∷ codes "{" ++ 10 ∷ codes "  b"
    ++ 10 ∷ codes "}" ++ 10 ∷ []

abbrev pub NamedLayout : Type 0
NamedLayout = layout default_style named ≡ codes "query Q {" ++ 10 ∷ codes "  b: c" ++ 10 ∷ codes "  ...G"
    ++ 10 ∷ codes "}" ++ 10 ∷ []
