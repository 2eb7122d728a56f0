-- The tokens to which the error of a rejected node refers.
use Rattle.std.specs.Prelude.{◌≡◌, ℕ, false, List, [], ◌∷◌, ◌++◌, length, codes}
use Rattle.graphql_core.specs.{Token, Place, is_listed, CauseText, duplicate_operation, unknown_operation}
use Rattle.graphql_core.specs.{empty_extension, FaultText, kind_number}
use Rattle.graphql_core.specs.declared.tokenizer.token.Kind.TheVariants.{Punctuator, Name}
use Rattle.graphql_schema.specs.Roots.{root_names}

-- the token is a name with this spelling
abbrev pub IsNameSpelled : List ℕ → Token → Type 0
IsNameSpelled word t = (t.kind ≡ kind_number Name) × (t.spelling ≡ word)

-- one of the tokens is a name with this spelling
abbrev pub HasName : List ℕ → List Token → Type 0
HasName word ts = (before after : List Token) × (t : Token) × (ts ≡ before ++ t ∷ after) × IsNameSpelled word t

-- At the position of the error is the name `schema`. A name with the spelling of the operation comes after it.
-- The token with the index of the error comes later, and is a closing brace.
pub record IsWrongSchema (ts : List Token) (n : ℕ) (place : Place) (name : List ℕ) : Type 0 where
  pub before : List Token
  pub schema : Token
  pub between : List Token
  pub operation : Token
  pub more : List Token
  pub brace : Token
  pub after : List Token
  pub tokens : ts ≡ before ++ schema ∷ between ++ operation ∷ more ++ brace ∷ after
  pub is_schema : IsNameSpelled (codes "schema") schema
  pub position : place ≡ schema.place
  pub is_operation : IsNameSpelled name operation
  pub is_brace : (brace.kind ≡ kind_number Punctuator) × (brace.spelling ≡ codes "}")
  pub index : n ≡ length (before ++ schema ∷ between ++ operation ∷ more ++ brace ∷ [])

-- At the position of the error is a name, and the token before it is `extend`. The index of the error is that of the
-- last token of the extension.
pub record IsEmptyExtension (ts : List Token) (n : ℕ) (place : Place) : Type 0 where
  pub before : List Token
  pub extend : Token
  pub keyword : Token
  pub more : List Token
  pub after : List Token
  pub tokens : ts ≡ before ++ extend ∷ keyword ∷ more ++ after
  pub is_extend : IsNameSpelled (codes "extend") extend
  pub is_name : keyword.kind ≡ kind_number Name
  pub position : place ≡ keyword.place
  pub index : n ≡ length (before ++ extend ∷ keyword ∷ more)

-- The tokens `ts` have what an error with this cause and index says of the token at its position. An unknown operation
-- is none of the three. A repeated operation is also named before, after `schema`.
abbrev pub RefersBy : List Token → ℕ → Place → CauseText → Type 0
RefersBy ts n p (unknown_operation name) = IsWrongSchema ts n p name × (is_listed name root_names ≡ false)
RefersBy ts n p (duplicate_operation name) = (w : IsWrongSchema ts n p name) × HasName name w.between
RefersBy ts n p empty_extension = IsEmptyExtension ts n p
RefersBy ts n p other = Unit {0}

-- the same for an error
abbrev pub RefersTo : List Token → ℕ → FaultText → Type 0
RefersTo ts n f = RefersBy ts n f.place f.cause
