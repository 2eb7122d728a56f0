-- What the minifier returns.
use Rattle.std.proofs.Common.{◌≡◌, ◌≤◌, ℕ, List, length, String, string_bytes, Result, IsErrAnd, subst}
use Rattle.graphql_core.specs.{IsLexicalErrorOf, Item, HasItems, FaultText, split, IsEnd, IsMinified, max_length, LastIsError, ParseFailure, ReturnsUnlessOutOfMemory}
use Rattle.graphql_core.proofs.{by_fault, only_out_of_memory, as_error, has_items}
use Rattle.std.specs.Global.{Global}
use Rattle.graphql_query.specs.{IsMinifyErrorOf, ran_out, lexical_error}

-- the error is the lexical error of the source, or an allocation failed
abbrev pub IsLexicalError : List ℕ → ParseFailure → Type 0
IsLexicalError source e = (items : List Item) → HasItems source items → IsLexicalErrorOf (split items) e

pub minify_failure : (source : List ℕ) (e : ParseFailure) → length source ≤ max_length → IsLexicalError source e → IsMinifyErrorOf source e
minify_failure source e bound bad =
    let has = has_items source in
    by_fault _ (IsMinifyErrorOf source) ran_out (λ f is. lexical_error bound has is) e (bad _ has)

pub is_minify_error : (source text : List ℕ) (e : ParseFailure) (r : Result (String Global) ParseFailure) → IsErrAnd r (λ y. y ≡ e) → IsLexicalError source e
    → IsMinified source text → ReturnsUnlessOutOfMemory string_bytes text r
is_minify_error source text e r h bad (items, has, end, is) =
    subst (ReturnsUnlessOutOfMemory string_bytes text) (as_error r e h)
    (only_out_of_memory (λ (f : FaultText). (split items).last ≡ LastIsError f.place f.cause) (λ f wrong. absurd (subst IsEnd wrong end)) e (bad items has))
