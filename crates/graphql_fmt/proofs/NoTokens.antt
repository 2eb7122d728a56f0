-- Sources without tokens.
use Rattle.std.proofs.Common.{◌≡◌, ◌≤◌, ◌↔◌, ℕ, Bool, true, false, IsTrue, List, [], ◌∷◌, length, Option, Some, None, Result, Ok, Err, IfOk}
use Rattle.std.proofs.Common.{String, string_bytes, MatchOption, sym, ap, ◌∙◌}
use Rattle.std.specs.Global.{Global}
use Rattle.std.specs.declared.alloc.AllocError.{AllocError}
use Rattle.graphql_core.specs.{Item, HasItems, TokenContent, max_length}
use Rattle.graphql_core.specs.lexical.BadTexts.{bad_text}
use Rattle.graphql_core.specs.lexical.Items.{Content}
use Rattle.graphql_core.specs.lexical.StreamCalls.{NextItem}
use Rattle.graphql_core.specs.lexical.Items as items
use Rattle.graphql_core.specs.declared.tokenizer.token.Token.{Token}
use Rattle.graphql_core.specs.declared.tokenizer.token.Bad.{Bad}
use Rattle.graphql_core.proofs.{items_unique, false≢true}
use Rattle.graphql_standard.specs.lexical.Elements.{IsEither}
use Rattle.graphql_fmt.specs.{Kept, HasKept, HasNoToken, KeepsAll}
use Rattle.graphql_fmt.proofs.KeptValues.{has_kept_of_either}

-- whether the first item has a content
abbrev begins_with : (Content → Bool) → List Item → Bool
begins_with has [] = false
begins_with has (i ∷ is) = has i.content

-- the content of the item that the tokenizer returned
abbrev content_of : Result (Option Token) Bad → Content
content_of (Ok (Some t)) = TokenContent t.kind t.value.now
content_of (Ok None) = items.EndOfInput
content_of (Err b) = items.LexicalError (bad_text b)

first_is : (has : Content → Bool) (old : List Item) (r : Result (Option Token) Bad) (new : List Item) → NextItem old r new
    → begins_with has old ≡ has (content_of r)
first_is has old (Ok (Some t)) new (w, is) = ap (begins_with has) is
first_is has old (Ok None) new (w, is, same) = ap (begins_with has) is
first_is has old (Err b) new (w, is, same) = ap (begins_with has) is

abbrev is_end_content : Content → Bool
is_end_content (TokenContent k s) = false
is_end_content items.EndOfInput = true
is_end_content (items.LexicalError b) = false

-- whether the tokenizer returned the end
abbrev pub is_end : Result (Option Token) Bad → Bool
is_end r = is_end_content (content_of r)

module _ (source : List ℕ) where
  -- another first item is a token or a lexical error
  pub some_token : (old new : List Item) (r : Result (Option Token) Bad) → HasItems source old → NextItem old r new → is_end r ≡ false
      → IsTrue false ↔ HasNoToken source
  some_token old new r has next other = (
    λ none. absurd (false≢true none),
    λ (w, end). sym other ∙ sym (first_is is_end_content old r new next) ∙ ap (begins_with is_end_content) (items_unique source old _ has end),
  )

  -- the source is lexical elements, so the formatter has pieces
  pub some_kept : HasNoToken source → (ks : List Kept) × HasKept IsEither source ks
  some_kept (w, has) = has_kept_of_either source _ has tt
