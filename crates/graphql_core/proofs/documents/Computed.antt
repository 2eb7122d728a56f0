-- The document of an input, or the place of its first error, by computing.
use Rattle.std.proofs.Common.{◌≡◌, ℕ, zero, suc, true, cond, List, [], ◌∷◌, Option, Some, None, refl}
use Rattle.graphql_core.specs.{has_tree, first, Choice, Neither, sees, choose, Left, Right, Reason, index_of, IsLeast, Rejected, result_of, Grammar, Expr}
use Rattle.graphql_core.specs.{Empty, One, Then, Either, Many, Sym, ParseTree, Nothing, Leaf, Both, First, Second, Stop, More, Node, row, accepts, peek, leaves}
use Rattle.graphql_core.specs.{Token, written, start, Item, HasItems, IsEnd, split, items, reading, Language, numbered, IsDocumentOf, IsReadable}
use Rattle.graphql_core.proofs.grammar.{fits-from_test, IsGiven, given, Found, find}
use Rattle.graphql_core.proofs.lexical.{has_items}
use Rattle.graphql_core.proofs.documents.Readable.{least}

-- a parse tree and the tokens after it
abbrev Read : Type 0
Read = Option (ParseTree × List Token)

abbrev and_then : Read → (ParseTree → List Token → Read) → Read
and_then None f = None
and_then (Some r) f = f r.0 r.1

abbrev by_choice : Choice → Read → Read → Read
by_choice Left a b = and_then a (λ x ts. Some (First x, ts))
by_choice Right a b = and_then b (λ y ts. Some (Second y, ts))
by_choice Neither a b = None

-- what is read in at most n nested steps; the tests below check that the result is right
abbrev read : ℕ → Grammar → Expr → List Token → Read
read zero g e ts = None
read (suc n) g Empty ts = Some (Nothing, ts)
read (suc n) g (One c) [] = None
read (suc n) g (One c) (t ∷ ts) = cond (accepts g c t) (Some (Leaf t, ts)) None
read (suc n) g (Then a b) ts = and_then (read n g a ts) (λ x us. and_then (read n g b us) (λ y vs. Some (Both x y, vs)))
read (suc n) g (Either a b) ts = by_choice (choose g.rows a b (peek ts)) (read n g a ts) (read n g b ts)
read (suc n) g (Many a) ts =
    cond (sees (first g.rows a) (peek ts)) (and_then (read n g a ts) (λ x us. and_then (read n g (Many a) us) (λ y vs. Some (More x y, vs))))
    (Some (Stop, ts))
read (suc n) g (Sym k) ts = and_then (read n g (row g k).rule ts) (λ x us. Some (Node k x, us))

abbrev read_tree : Read → ParseTree
read_tree None = Nothing
read_tree (Some r) = r.0

module _ {D : Type 0} (l : Language D) where
  abbrev pub parse_tree_of : List ℕ → ParseTree
  parse_tree_of text = written l.changes (read_tree (read 60 (reading l) (Sym l.document) (split (items start text)).tokens))

  -- If the grammar derives the computed tree, and its leaves are the input's tokens, it denotes the input's document.
  pub computed : (text : List ℕ) → has_tree l.grammar (Sym l.document) (parse_tree_of text) ≡ true
      → (split (items start text)).tokens ≡ leaves (parse_tree_of text) → IsEnd (split (items start text)).last
      → IsDocumentOf l text (l.means (parse_tree_of text))
  computed text fits tokens end =
      (items start text, has_items text, (parse_tree_of text, (fits-from_test l.grammar (Sym l.document) (parse_tree_of text) fits, tokens), end, refl))

  abbrev pub found_for : (text : List ℕ) → Found (reading l) (Sym l.document) (split (items start text)).tokens
  found_for text = find (reading l) 60 (Sym l.document) (split (items start text)).tokens

  -- the error found is the first error: the one at the lowest token index
  pub rejected : IsReadable l → (text : List ℕ) (why : Reason) (place : ℕ) (h : IsGiven (found_for text))
      → Rejected why place ≡ result_of (numbered (split (items start text))) (given (found_for text) h).0
      → (items : List Item) × HasItems text items × IsLeast l.grammar (Sym l.document) (numbered (split items)) why (index_of why place)
  rejected readable text why place h i =
      let r = given (found_for text) h in
      (items start text, has_items text, (least l readable).wrong (numbered (split (items start text))) why place (r.0, r.1, i))
