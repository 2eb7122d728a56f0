-- Values, types and directives, ignoring positions, depend only on the values of tokens. So inputs whose tokens have
-- the same kinds and values have the same document, ignoring positions.
use Rattle.std.proofs.Common.{◌≡◌, ℕ, true, false, List, ◌∷◌, Some, Result, Ok, Err, refl, sym, ap, ap₂, ◌∙◌, subst, map}
use Rattle.graphql_core.proofs.sources.{minified_tokens}
use Rattle.graphql_core.proofs.lexical.{items_unique}
use Rattle.graphql_core.specs.{float, string, item, enum, object, int, ValueTree, TypeTree, named, list_of, no_place, erase, erase_all, variable, list}
use Rattle.graphql_core.specs.{no_members, Token, Class, ParseTree, accepts, Item, HasItems, Items, split, IsEnd, IsMinified, ParseFailure, int_of, string_of}
use Rattle.graphql_core.specs.{block_string_of, spelling_at, plain_of, put_all, value_of, values_of, argument_of, pairs_of, const_of, consts_of, const_pair_of}
use Rattle.graphql_core.specs.{const_pairs_of, default_of, optional_default_of, optional_non_null, type_of, arguments_of, optional_arguments_of, directive_of}
use Rattle.graphql_core.specs.{directives_of, IsDocument, IsDocumentOf, ParsesBackTo, IsParsed, AreAlike, is_there, optional_of, optional_list_of, each_of}
use Rattle.graphql_core.specs.{enclosed_of, separated_of, joined_of, Language, valued}
use Rattle.graphql_core.proofs.values.TreesAlike.{SameTrees, same_leaf, same_block, same_both, same_first, same_second, same_more, same_node, left_tree}
use Rattle.graphql_core.proofs.values.TreesAlike.{right_tree, SameLeaf, AlikeBy, Alike, alike_values, have_blocks_last, blocks_last_at, refilled}

-- ---- optional parts and lists

-- what parse trees denote, erased, depends only on the values of tokens
abbrev pub ByValues : {A B : Type 0} → (A → B) → (ParseTree → A) → Type 0
ByValues erased f = (s : SameTrees) → erased (f (right_tree s)) ≡ erased (f (left_tree s))

-- the same of what has no positions
abbrev pub IsSame : {A : Type 0} → (ParseTree → A) → Type 0
IsSame f = (s : SameTrees) → f (right_tree s) ≡ f (left_tree s)

pub there_same : IsSame is_there
there_same (same_first x) = refl
there_same _ = refl

pub optional_same : {A : Type 0} (f : ParseTree → A) → IsSame f → IsSame (optional_of f)
optional_same f same (same_first x) = ap Some (same x)
optional_same f same _ = refl

pub optional_list_same : {A B : Type 0} (erased : List A → B) (f : ParseTree → List A) → ByValues erased f → ByValues erased (optional_list_of f)
optional_list_same erased f same (same_first x) = same x
optional_list_same erased f same _ = refl

pub each_alike : {A B : Type 0} (erased : A → B) (f : ParseTree → A) → ByValues erased f → ByValues (map erased) (each_of f)
each_alike erased f same (same_both x xs) = λ i. same x i ∷ each_alike erased f same xs i
each_alike erased f same (same_more x xs) = λ i. same x i ∷ each_alike erased f same xs i
each_alike erased f same _ = refl

pub enclosed_alike : {A B : Type 0} (erased : A → B) (f : ParseTree → A) → ByValues erased f → ByValues (map erased) (enclosed_of f)
enclosed_alike erased f same (same_node k (same_both o (same_both xs c))) = each_alike erased f same xs
enclosed_alike erased f same _ = refl

pub each_same : {A : Type 0} (f : ParseTree → A) → IsSame f → IsSame (each_of f)
each_same f same (same_both x xs) = λ i. same x i ∷ each_same f same xs i
each_same f same (same_more x xs) = λ i. same x i ∷ each_same f same xs i
each_same f same _ = refl

pub enclosed_same : {A : Type 0} (f : ParseTree → A) → IsSame f → IsSame (enclosed_of f)
enclosed_same f same (same_node k (same_both o (same_both xs c))) = each_same f same xs
enclosed_same f same _ = refl

module _ {A : Type 0} (f : ParseTree → A) (none : A) (same : IsSame f) where
  separated_same : IsSame (separated_of f none)
  separated_same (same_both m x) = same x
  separated_same _ = refl

  pub joined_same : IsSame (joined_of f none)
  joined_same (same_both m (same_both x xs)) = λ i. same x i ∷ each_same (separated_of f none) separated_same xs i
  joined_same _ = refl

-- ---- what leaves, values, types and directives denote

pub spelling_same : IsSame spelling_at
spelling_same (same_leaf t u e) = ap (λ (v : Token). v.spelling) e
spelling_same _ = refl

plain_same : IsSame plain_of
plain_same (same_node k (same_first t)) = refl
plain_same (same_node k (same_second (same_first t))) = refl
plain_same (same_node k (same_second (same_second (same_first t)))) = refl
plain_same (same_node k (same_second (same_second (same_second (same_first (same_node j t)))))) = ap enum (spelling_same t)
plain_same (same_node k (same_second (same_second (same_second (same_second (same_first t)))))) = ap (λ s. int (int_of s)) (spelling_same t)
plain_same (same_node k (same_second (same_second (same_second (same_second (same_second (same_first t))))))) = ap float (spelling_same t)
plain_same (same_node k (same_second (same_second (same_second (same_second (same_second (same_second (same_first t)))))))) =
    ap (λ s. string (string_of s)) (spelling_same t)
plain_same (same_node k (same_second (same_second (same_second (same_second (same_second (same_second (same_second t)))))))) =
    ap (λ s. string (block_string_of s)) (spelling_same t)
plain_same (same_node k (same_second (same_second (same_second (same_second (same_second (same_second (same_block t u e)))))))) = ap string e
plain_same _ = refl

abbrev Pair : Type 0
Pair = List ℕ × ValueTree

mutual
  value_same : IsSame value_of
  value_same (same_node k (same_first (same_both d n))) = ap variable (spelling_same n)
  value_same (same_node k (same_second (same_first p))) = plain_same p
  value_same (same_node k (same_second (same_second (same_first (same_both o (same_both vs c)))))) = ap list (values_same vs)
  value_same (same_node k (same_second (same_second (same_second (same_both o (same_both ps c)))))) =
      ap (λ (l : List Pair). object (put_all l no_members)) (pairs_same ps)
  value_same _ = refl

  values_same : IsSame values_of
  values_same (same_more x xs) = ap₂ item (value_same x) (values_same xs)
  values_same _ = refl

  argument_same : IsSame argument_of
  argument_same (same_node k (same_both n (same_both c v))) = λ i. (spelling_same n i, value_same v i)
  argument_same _ = refl

  pairs_same : IsSame pairs_of
  pairs_same (same_both x xs) = λ i. argument_same x i ∷ pairs_same xs i
  pairs_same (same_more x xs) = λ i. argument_same x i ∷ pairs_same xs i
  pairs_same _ = refl

mutual
  const_same : IsSame const_of
  const_same (same_node k (same_first p)) = plain_same p
  const_same (same_node k (same_second (same_first (same_both o (same_both vs c))))) = ap list (consts_same vs)
  const_same (same_node k (same_second (same_second (same_both o (same_both ps c))))) =
      ap (λ (l : List Pair). object (put_all l no_members)) (const_pairs_same ps)
  const_same _ = refl

  consts_same : IsSame consts_of
  consts_same (same_more x xs) = ap₂ item (const_same x) (consts_same xs)
  consts_same _ = refl

  const_pair_same : IsSame const_pair_of
  const_pair_same (same_node k (same_both n (same_both c v))) = λ i. (spelling_same n i, const_same v i)
  const_pair_same _ = refl

  const_pairs_same : IsSame const_pairs_of
  const_pairs_same (same_more x xs) = λ i. const_pair_same x i ∷ const_pairs_same xs i
  const_pairs_same _ = refl

default_same : IsSame default_of
default_same (same_node k (same_both e v)) = const_same v
default_same _ = refl

pub optional_default_same : IsSame optional_default_of
optional_default_same = optional_same default_of default_same

non_null_same : (m : SameTrees) (t : TypeTree) → optional_non_null (right_tree m) t ≡ optional_non_null (left_tree m) t
non_null_same (same_first m) t = refl
non_null_same _ t = refl

pub type_same : IsSame type_of
type_same (same_node k (same_first (same_both n m))) =
    non_null_same m _ ∙ ap (λ s. optional_non_null (left_tree m) (named s)) (spelling_same n)
type_same (same_node k (same_second (same_both o (same_both t (same_both c m))))) =
    non_null_same m _ ∙ ap (λ s. optional_non_null (left_tree m) (list_of s)) (type_same t)
type_same _ = refl

arguments_same : IsSame arguments_of
arguments_same (same_node k (same_both o (same_both ps c))) = pairs_same ps
arguments_same _ = refl

pub optional_arguments_same : IsSame optional_arguments_of
optional_arguments_same = optional_list_same (λ l. l) arguments_of arguments_same

directive_same : ByValues erase directive_of
directive_same (same_node k (same_both a (same_both n o))) =
    λ i. record { position = no_place; name = spelling_same n i; arguments = optional_arguments_same o i }
directive_same _ = refl

pub directives_same : ByValues erase_all directives_of
directives_same (same_node k xs) = each_alike erase directive_of directive_same xs
directives_same _ = refl

-- ---- documents of the same tokens, ignoring positions

-- The documents of the grammar, ignoring positions, depend only on the kinds and values of tokens.
pub record DependsOnValues {D : Type 0} (l : Language D) : Type 0 where
  pub accepts : (c : Class) (t u : Token) → SameLeaf c t u → accepts l.grammar c u ≡ accepts l.grammar c t
  pub checks : (k : ℕ) (s : SameTrees) → l.grammar.check k (right_tree s) ≡ l.grammar.check k (left_tree s)
  pub means : ByValues l.erase l.means
  pub blocks : have_blocks_last l.grammar.rows ≡ true

module _ {D : Type 0} (l : Language D) (p : DependsOnValues l) where
  values_document : (a b : Items) → AlikeBy false b.tokens a.tokens → IsEnd b.last → (d : D) → IsDocument l a d
      → (e : D) × IsDocument l b e × (l.erase e ≡ l.erase d)
  values_document a b alike end d (x, (fits, is), last, means) =
      let same = subst (λ (ts : List Token). AlikeBy false b.tokens ts) is alike in
      let (s, left, fy, ly) = refilled l.grammar false p.accepts p.checks (λ k. blocks_last_at l.grammar.rows k p.blocks) fits refl b.tokens same in (
        l.means (right_tree s),
        (right_tree s, (fy, ly), end, refl),
        p.means s ∙ ap (λ (z : ParseTree). l.erase (l.means z)) left ∙ ap l.erase (sym means),
      )

  -- the same for tokens that are equal ignoring positions
  pub document_alike : (a b : Items) → Alike b.tokens a.tokens → IsEnd b.last → (d : D) → IsDocument l a d
      → (e : D) × IsDocument l b e × (l.erase e ≡ l.erase d)
  document_alike a b alike = values_document a b (alike_values b.tokens a.tokens alike)

  -- inputs whose tokens have the same kinds and values have the same document, ignoring positions
  pub same_values_document : (source text : List ℕ) (items others : List Item) → HasItems source items → HasItems text others → IsEnd (split others).last
      → map valued (split others).tokens ≡ map valued (split items).tokens → (d : D) → IsDocumentOf l source d → ParsesBackTo l text d
  same_values_document source text items others has h end alike d (mine, k, doc) =
      let (e, doc', same) = values_document (split items) (split others) alike end d
      (subst (λ (is : List Item). IsDocument l (split is) d) (items_unique source mine items k has) doc) in
      (e, (others, h, doc'), same)

  -- such inputs parse alike
  pub same_values_parsed : (source text : List ℕ) (items others : List Item) → HasItems source items → HasItems text others → IsEnd (split items).last
      → IsEnd (split others).last → map valued (split others).tokens ≡ map valued (split items).tokens → (r s : Result D ParseFailure) → IsParsed l source r
      → IsParsed l text s → AreAlike l r s
  same_values_parsed source text items others has h last end alike (Ok d) (Ok e) (derived, complete) (found, all) =
      let (f, doc, same) = same_values_document source text items others has h end alike d derived in
      sym same ∙ ap l.erase (sym (all f doc))
  same_values_parsed source text items others has h last end alike (Ok d) (Err g) (derived, complete) (found, all) =
      let (f, doc, same) = same_values_document source text items others has h end alike d derived in
      all f doc
  same_values_parsed source text items others has h last end alike (Err g) (Ok e) (derived, complete) (found, all) =
      let (f, doc, same) = same_values_document text source others items h has last (sym alike) e found in
      complete f doc
  same_values_parsed source text items others has h last end alike (Err f) (Err g) p q = tt

  -- a minified output has the document of the source, ignoring positions, and no other
  pub minified_document : (source text : List ℕ) → IsMinified source text → (d : D) → IsDocumentOf l source d → ParsesBackTo l text d
  minified_document source text is d (items, has, doc) =
      let (others, h, alike, end) = minified_tokens source text is items has in
      same_values_document source text items others has h end (alike_values (split others).tokens (split items).tokens alike) d (items, has, doc)

  pub source_document : (source text : List ℕ) → IsMinified source text → (d : D) → IsDocumentOf l text d → ParsesBackTo l source d
  source_document source text (items, has, last, is) d doc =
      let (others, h, alike, end) = minified_tokens source text (items, has, last, is) items has in
      same_values_document text source others items h has last (sym (alike_values (split others).tokens (split items).tokens alike)) d doc

  -- a minified output parses as its source does, ignoring positions
  pub parsed_alike : (source text : List ℕ) (r s : Result D ParseFailure) → IsMinified source text → IsParsed l source r → IsParsed l text s → AreAlike l r s
  parsed_alike source text r s (items, has, last, is) p q =
      let (others, h, alike, end) = minified_tokens source text (items, has, last, is) items has in
      same_values_parsed source text items others has h last end (alike_values (split others).tokens (split items).tokens alike) r s p q
