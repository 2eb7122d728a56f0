-- The first definition of a source, from what a reader consumes.
use Rattle.std.proofs.Common.{◌≡◌, ℕ, ◌<◌, List, length, drop, sym, ap, subst, ◌∙◌, arith, length-append}
use Rattle.graphql_core.specs.{Spent, tokens_then, Sym, ParseTree, leaves, Takes, written, Item, HasItems, start}
use Rattle.graphql_core.specs.{next_place, items, Last, split, place_of, place_next, Items}
use Rattle.graphql_core.specs.declared.position.Pos.{Pos}
use Rattle.graphql_core.proofs.{items_unique, has_items, AreItems, more_items, place_after, one_position}
use Rattle.graphql_query.specs.{DefinitionTree, reading, changes, definition_symbol, definition_of, text_after, BeginsWith, IsFirstDefinition, TakesDefinition}
use Rattle.graphql_query.proofs.documents.FirstDefinition.{begins, one_beginning}

-- ---- what was read is the first definition

module _ (text : List ℕ) (i j : Items) (d : DefinitionTree) (p : Pos) (are : AreItems text i) (h : TakesDefinition i j d) (at : place_of p ≡ place_next j) where
  -- the written parse tree of the definition that was read
  abbrev parse_tree : ParseTree
  parse_tree = written changes h.0

  abbrev tokenized : List Item
  tokenized = items start text

  begins_here : BeginsWith (split tokenized).tokens parse_tree j.tokens
  begins_here = begins (split tokenized).tokens j.tokens h.0
      (subst (λ (k : Items). Takes reading (Sym definition_symbol) k.tokens h.0 j.tokens) (are tokenized (has_items text)).1 h.1.0)

  within : length (leaves parse_tree) < length tokenized
  within = omega (arith, more_items text tokenized (has_items text), ap length begins_here.1, length-append (leaves parse_tree) j.tokens)

  position : (next_place (drop (length (leaves parse_tree)) tokenized)).position ≡ p
  position =
      let last : j.last ≡ (split tokenized).last = ap (λ (k : Last × Spent). k.0) h.1.1 ∙ ap (λ (k : Items). k.last) (are tokenized (has_items text)).1 in
      sym (one_position p _ (at ∙ ap (λ (l : Last). place_next (tokens_then j.tokens l)) last
      ∙ place_after tokenized (leaves parse_tree) j.tokens begins_here.1 within))

  pub found : (rest : List ℕ)
      → ((is : List Item) (n : ℕ) → HasItems text is → n < length is → (next_place (drop n is)).position ≡ p → rest ≡ text_after n is text)
      → IsFirstDefinition text (d, rest)
  found rest f =
      let has = has_items text in
      (tokenized, has, parse_tree, j.tokens, begins_here, h.2, f tokenized (length (leaves parse_tree)) has within position)

-- ---- uniqueness

pub one_first : (text : List ℕ) (q r : DefinitionTree × List ℕ) → IsFirstDefinition text q → IsFirstDefinition text r → q ≡ r
one_first text (d, rest) (e, other_rest) (is, has, x, us, starts, means, after) (js, has_js, y, vs, other_starts, other_means, other_after) =
    let same = items_unique text is js has has_js in
    let (one, left) = one_beginning (split is).tokens us vs x y starts
    (subst (λ (l : List Item). BeginsWith (split l).tokens y vs) (sym same) other_starts) in
    let first : d ≡ e = means ∙ ap definition_of one ∙ sym other_means in
    let second : rest ≡ other_rest =
    after ∙ ap (λ (z : ParseTree). text_after (length (leaves z)) is text) one ∙ ap (λ (l : List Item). text_after (length (leaves y)) l text) same
    ∙ sym other_after in
    λ i. (first i, second i)
