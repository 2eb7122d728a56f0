-- Keywords: which keyword a token is, and what begins with a keyword.
use Rattle.std.proofs.Common.{◌≡◌, ◌≢◌, ℕ, true, false, List, [], ◌∷◌, Option, Some, None, codes, is_some, refl, sym}
use Rattle.std.proofs.Math.Bool.{and-false}
use Rattle.std.proofs.lemmas.Bool.{true_from_ne_false, both_ways}
use Rattle.graphql_core.specs.{Token, Spelled, matches, all_within, peek, sees, Items}
use Rattle.graphql_core.proofs.{sees-within, spelling_differs}
use Rattle.graphql_schema.specs.declared.read.keyword.TypeKind.TheVariants.{Scalar, Object, Interface, Union, Enum, InputObject}
use Rattle.graphql_schema.specs.declared.read.keyword.Keyword.{Keyword}
use Rattle.graphql_schema.specs.declared.read.keyword.Keyword.TheVariants.{Schema, OfType, Directive}
use Rattle.graphql_schema.specs.{class_of, keywords, HasKeyword, HasNextKeyword}

-- a token with another spelling
other_word : (k : ℕ) (w : List ℕ) (t : Token) → w ≢ t.spelling → matches (Spelled k w) t ≡ false
other_word k w t h = rw (spelling_differs w t.spelling h) (and-false _)

pub no_word : (t : Token) → codes "schema" ≢ t.spelling → codes "scalar" ≢ t.spelling → codes "type" ≢ t.spelling → codes "interface" ≢ t.spelling
    → codes "union" ≢ t.spelling → codes "enum" ≢ t.spelling → codes "input" ≢ t.spelling → codes "directive" ≢ t.spelling → HasKeyword t None
no_word t a b c d e f g h = rw (
  other_word _ _ t a,
  other_word _ _ t b,
  other_word _ _ t c,
  other_word _ _ t d,
  other_word _ _ t e,
  other_word _ _ t f,
  other_word _ _ t g,
  other_word _ _ t h,
) refl

-- every keyword is in the list of keywords
is_keyword : (k : Keyword) → all_within (class_of k ∷ []) keywords ≡ true
is_keyword Schema = refl
is_keyword (OfType Scalar) = refl
is_keyword (OfType Object) = refl
is_keyword (OfType Interface) = refl
is_keyword (OfType Union) = refl
is_keyword (OfType Enum) = refl
is_keyword (OfType InputObject) = refl
is_keyword Directive = refl

pub keyword_is_seen : (i : Items) (stated : Option Keyword) → HasNextKeyword i stated → is_some stated ≡ sees keywords (peek i.tokens)
keyword_is_seen i None h = sym h
keyword_is_seen i (Some k) h =
    sym (true_from_ne_false _ (λ none. both_ways _ (sees-within (class_of k ∷ []) keywords (peek i.tokens) (is_keyword k) none) h))
