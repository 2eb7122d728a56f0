-- The first definition of a source, and the rest of the source after it.
use Rattle.std.specs.Prelude.{◌≡◌, ℕ, List, [], ◌∷◌, ◌++◌, length, drop}
use Rattle.graphql_core.specs.{Token, Sym, ParseTree, leaves, Fits, lax, split, Item, HasItems, next_place, Language}
use Rattle.graphql_query.specs.Document.{queries, ParsesBackTo}
use Rattle.graphql_query.specs.Earlier.{queries_0_4_1}
use Rattle.graphql_query.specs.Tree.{DefinitionTree, DocumentTree, erase_definition}
use Rattle.graphql_query.specs.Grammar.{query, definition_symbol}
use Rattle.graphql_query.specs.Meanings.{definition_of}

-- The language of one definition: that of documents, with a definition as the start symbol.
abbrev pub one_definition_of : Language DocumentTree → Language DefinitionTree
one_definition_of l = record {
  grammar = l.grammar;
  document = definition_symbol;
  means = definition_of;
  erase = erase_definition;
  lacks = l.lacks;
  rejects = l.rejects;
  factored_rows = l.factored_rows;
  changes = l.changes;
}

abbrev pub one_definition : Language DefinitionTree
one_definition = one_definition_of queries

-- the source after its first n tokens and the ignored text behind them
abbrev pub text_after : ℕ → List Item → List ℕ → List ℕ
text_after n items text = drop (next_place (drop n items)).offset text

module _ (l : Language DefinitionTree) where
  -- the tokens begin with a definition that has this parse tree, and then these others are left
  abbrev pub BeginsWithIn : List Token → ParseTree → List Token → Type 0
  BeginsWithIn tokens x others = Fits l.grammar (Sym l.document) x × (tokens ≡ leaves x ++ others)

  -- The tokens of the source begin with a definition that denotes d. The rest begins at the token after the definition.
  abbrev pub IsFirstIn : List ℕ → DefinitionTree × List ℕ → Type 0
  IsFirstIn text (d, rest) =
      (items : List Item) × HasItems text items × (x : ParseTree) × (others : List Token)
      × BeginsWithIn (split items).tokens x others
      × (d ≡ l.means x) × (rest ≡ text_after (length (leaves x)) items text)

abbrev pub BeginsWith : List Token → ParseTree → List Token → Type 0
BeginsWith = BeginsWithIn one_definition

abbrev pub IsFirstDefinition : List ℕ → DefinitionTree × List ℕ → Type 0
IsFirstDefinition = IsFirstIn one_definition

-- the same in version 0.4.1
abbrev pub IsFirstDefinition_0_4_1 : List ℕ → DefinitionTree × List ℕ → Type 0
IsFirstDefinition_0_4_1 = IsFirstIn (one_definition_of queries_0_4_1)

-- the first definition of the source is d, and some rest follows
abbrev pub BeginsWithDefinition : List ℕ → DefinitionTree → Type 0
BeginsWithDefinition text d = (rest : List ℕ) × IsFirstDefinition text (d, rest)

-- The tokens of the source begin with a definition that has this parse tree, positions included.
-- The rest begins at the token after the definition.
abbrev pub IsFirstParseTree : List ℕ → ParseTree × List ℕ → Type 0
IsFirstParseTree text (x, rest) =
    (items : List Item) × HasItems text items × (others : List Token) × BeginsWith (split items).tokens x others
    × (rest ≡ text_after (length (leaves x)) items text)

-- the source begins with the tokens of this parse tree, and some rest follows
abbrev pub BeginsWithParseTree : List ℕ → ParseTree → Type 0
BeginsWithParseTree text x = (rest : List ℕ) × IsFirstParseTree text (x, rest)

-- No definition is a proper prefix of another, and each has exactly one parse tree.
-- Integers, floats and strings without a value are accepted here.
abbrev pub NoneBeginsAnother : Type 0
NoneBeginsAnother =
    (x y : ParseTree) (us vs : List Token) → Fits (lax query) (Sym definition_symbol) x
    → Fits (lax query) (Sym definition_symbol) y → leaves x ++ us ≡ leaves y ++ vs → (x ≡ y) × (us ≡ vs)

-- the rest parses to these definitions, ignoring positions; if there are none, the rest is empty
abbrev pub HasDefinitions : List ℕ → List DefinitionTree → Type 0
HasDefinitions rest [] = rest ≡ []
HasDefinitions rest (d ∷ ds) = ParsesBackTo rest (d ∷ ds)
