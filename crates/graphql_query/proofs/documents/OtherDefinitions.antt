-- If a source is a document, the rest after its first definition parses to the other definitions.
use Rattle.std.proofs.Common.{◌≡◌, ℕ, List, ◌∷◌, ◌++◌, length, drop, refl, sym, subst, arith}
use Rattle.graphql_core.proofs.{Left, nests_before, past_tree, nests_tree, document_alike, OfItsOwn, own_text}
use Rattle.graphql_core.specs.{Token, Sym, Many, ParseTree, Both, More, Node, leaves, Fits, fits_both, fits_stop}
use Rattle.graphql_core.specs.{fits_more, fits_node, Item, HasItems, split, IsEnd, each_of}
use Rattle.graphql_query.specs.{DefinitionTree, queries, IsDocument, IsDocumentOf, query, document_symbol}
use Rattle.graphql_query.specs.{definition_symbol, definition_of, text_after, IsFirstDefinition, HasDefinitions}
use Rattle.graphql_query.proofs.documents.MeaningsAlike.{by_values}

-- ---- after the first definition

-- a definition closes the brackets that it opens
after_definition : (text : List ℕ) (is : List Item) (x : ParseTree) (others : List Token) → HasItems text is → Fits query (Sym definition_symbol) x
    → (split is).tokens ≡ leaves x ++ others → Left text (split is).last (drop (length (leaves x)) is) others 50
after_definition text is x others has fits parts =
    past_tree query refl fits 50 _ (nests_tree x 50 _ (nests_before text is has (leaves x) others parts))

others_after : (text : List ℕ) (is : List Item) (x more : ParseTree) → HasItems text is → Fits query (Sym definition_symbol) x
    → Fits query (Many (Sym definition_symbol)) more → (split is).tokens ≡ leaves x ++ leaves more → IsEnd (split is).last
    → HasDefinitions (text_after (length (leaves x)) is text) (each_of definition_of more)
others_after text is x more has fits others parts end =
    let l = after_definition text is x (leaves more) has fits parts in
    let own = subst (OfItsOwn text) (sym l.items) (own_text l.pieces l.rest l.stop text l.place l.tokenized l.there (omega (arith, l.capacity))) in
    let ends = subst IsEnd (sym l.ends) end in
    by more others l.tokens own ends
  where
    by : (y : ParseTree) → Fits query (Many (Sym definition_symbol)) y → (split (drop (length (leaves x)) is)).tokens ≡ leaves y
        → OfItsOwn text (drop (length (leaves x)) is) → IsEnd (split (drop (length (leaves x)) is)).last
        → HasDefinitions (text_after (length (leaves x)) is text) (each_of definition_of y)
    by y fits_stop none own ends = own.empty none ends
    by y (fits_more {x = d} {y = ds} f fs) some own ends =
        let here : IsDocument (split (drop (length (leaves x)) is)) (each_of definition_of (More d ds)) =
        (Node document_symbol (Both d ds), (fits_node (fits_both f fs) refl, some), ends, refl) in
        let (e, document, same) = document_alike queries by_values (split (drop (length (leaves x)) is)) (split own.items) own.alike.0 (own.alike.1 ends)
        (each_of definition_of (More d ds)) here in
        (e, (own.items, own.has, document), same)

pub other_definitions : (text : List ℕ) (d : DefinitionTree) (ds : List DefinitionTree) → IsDocumentOf text (d ∷ ds)
    → (rest : List ℕ) × IsFirstDefinition text (d, rest) × HasDefinitions rest ds
other_definitions text d ds (is, has, (y, (fits_node (fits_both {x = x} {y = more} f fs) check, parts), end, means)) =
    let first : d ≡ definition_of x = cc in
    let others : ds ≡ each_of definition_of more = cc in (
      text_after (length (leaves x)) is text,
      (is, has, x, leaves more, (f, parts), first, refl),
      subst (HasDefinitions (text_after (length (leaves x)) is text)) (sym others) (others_after text is x more has f fs parts end),
    )
