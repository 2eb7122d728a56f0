-- Some small documents, and some inputs that are none. An input is written with a space between two tokens.
use Rattle.std.specs.Prelude.{ℕ, suc, nat_lt, IsTrue, ◌==◌, if◌then◌else◌, List, [], ◌∷◌, ◌++◌, map, length, take}
use Rattle.std.specs.Prelude.{codes}
use Rattle.std.specs.Char.{is_ascii_digit}
use Rattle.graphql_core.specs.{Token, sample}
use Rattle.graphql_core.specs.lexical.Lexical.{is_name_start}
use Rattle.graphql_core.specs.declared.tokenizer.token.Kind.{Kind}
use Rattle.graphql_core.specs.declared.tokenizer.token.Kind.TheVariants.{Punctuator, Name, IntValue, StringValue}
use Rattle.graphql_standard.specs.Recognizing.{IsDocument, BeginsDocument}

-- ---- the tokens of an input

abbrev pub kind_of : List ℕ → Kind
kind_of [] = Punctuator
kind_of (b ∷ bs) =
    if is_name_start b then Name else if b == 34 then StringValue else if is_ascii_digit b then IntValue else Punctuator

abbrev pub words : List ℕ → List ℕ → List (List ℕ)
words word [] = word ∷ []
words word (b ∷ bs) = if b == 32 then word ∷ words [] bs else words (word ++ b ∷ []) bs

abbrev pub tokens : List ℕ → List Token
tokens text = map (λ word. sample (kind_of word) word) (words [] text)

abbrev pub Accepted : List ℕ → Type 0
Accepted text = IsDocument (tokens text)

-- the token at this index, from 0, is the first error
abbrev pub RejectedAt : ℕ → List ℕ → Type 0
RejectedAt i text =
    IsTrue (nat_lt i (length (tokens text))) × BeginsDocument (take i (tokens text))
    × (BeginsDocument (take (suc i) (tokens text)) → ⊥)

-- the end is the first error
abbrev pub Unfinished : List ℕ → Type 0
Unfinished text = BeginsDocument (tokens text) × (IsDocument (tokens text) → ⊥)

-- ---- descriptions (section Descriptions)

abbrev pub DescribedOperation : Type 0
DescribedOperation = Accepted (34 ∷ 34 ∷ codes " query Q { a }")

abbrev pub DescribedFragment : Type 0
DescribedFragment = Accepted (34 ∷ 34 ∷ codes " fragment F on T { a }")

abbrev pub DescribedVariable : Type 0
DescribedVariable = Accepted (codes "query ( " ++ 34 ∷ 34 ∷ codes " $ v : Int = 1 ) { a }")

-- a selection set alone has no description
abbrev pub DescribedSelectionSet : Type 0
DescribedSelectionSet = RejectedAt 1 (34 ∷ 34 ∷ codes " { a }")

-- an extension has no description
abbrev pub DescribedExtension : Type 0
DescribedExtension = RejectedAt 1 (34 ∷ 34 ∷ codes " extend schema @ a")

-- ---- documents (section Document)

abbrev pub MixedDocument : Type 0
MixedDocument = Accepted (codes "{ a } type A { b : C } { d } scalar E { f } extend scalar E @ g { h }")

-- the braces are the fields of `A`: they begin no selection set, though `type A` and `{ b }` are documents
abbrev pub FieldsComeFirst : Type 0
FieldsComeFirst = RejectedAt 4 (codes "type A { b }")

abbrev pub SelectionSetLater : Type 0
SelectionSetLater = Accepted (codes "type A { b : C } { d }")

abbrev pub TypeWithoutFields : Type 0
TypeWithoutFields = Accepted (codes "type A type B query { d }")

abbrev pub NoDefinition : Type 0
NoDefinition = Unfinished (codes "query Q")

-- ---- executable definitions (sections Selection Sets, Fragments)

abbrev pub EmptySelectionSet : Type 0
EmptySelectionSet = RejectedAt 1 (codes "{ }")

abbrev pub FragmentNamedOn : Type 0
FragmentNamedOn = RejectedAt 1 (codes "fragment on on A { b }")

abbrev pub KeywordsAsNames : Type 0
KeywordsAsNames = Accepted (codes "query query ( $ fragment : type ) { on : true ( enum : input ) ... on on { null } }")

-- ---- type definitions (sections Objects, Interfaces, Enums, Directives)

abbrev pub EmptyFields : Type 0
EmptyFields = RejectedAt 3 (codes "type A { }")

abbrev pub EnumValueTrue : Type 0
EnumValueTrue = RejectedAt 3 (codes "enum A { true }")

abbrev pub InterfaceExtension : Type 0
InterfaceExtension = Accepted (codes "extend interface A implements B & C")

abbrev pub TwoTypesForOneOperation : Type 0
TwoTypesForOneOperation = Accepted (codes "schema { query : A query : B }")

abbrev pub EmptySchema : Type 0
EmptySchema = RejectedAt 2 (codes "schema { }")

-- a directive of a type, or of a variable, has no variable
abbrev pub VariableInTypeDirective : Type 0
VariableInTypeDirective = RejectedAt 7 (codes "scalar A @ b ( c : $ d )")

abbrev pub VariableInVariableDirective : Type 0
VariableInVariableDirective = RejectedAt 11 (codes "query ( $ a : B @ c ( d : $ e ) ) { f }")

abbrev pub EmptyExtension : Type 0
EmptyExtension = RejectedAt 3 (codes "extend type A type B")

abbrev pub KnownLocation : Type 0
KnownLocation = Accepted (codes "directive @ a repeatable on | VARIABLE_DEFINITION | FIELD")

abbrev pub UnknownLocation : Type 0
UnknownLocation = RejectedAt 4 (codes "directive @ a on VARIABLE")
