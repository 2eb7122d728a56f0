-- Inputs with the same tokens and comments by the lexical grammar of September 2025 have the same parse trees.
use Rattle.std.proofs.Common.{◌≡◌, ℕ, Bool, true, false, ◌&&◌, if◌then◌else◌, ◌==◌, List, [], ◌∷◌, ◌++◌, map}
use Rattle.std.proofs.Common.{slice_index, refl, sym, ap, ap₂, ◌∙◌, subst}
use Rattle.graphql_core.specs.declared.tokenizer.token.Kind.{Kind}
use Rattle.graphql_core.specs.declared.tokenizer.token.Kind.TheVariants.{Punctuator, Name, IntValue, FloatValue, StringValue, BlockString}
use Rattle.graphql_core.specs.declared.tokenizer.element.ElementKind.TheVariants as element
use Rattle.graphql_core.specs.{Token, Class, Spelled, AnyOf, Except, Meaning, Ignored, TokenOf, Piece, ParseTree, Both, First, Second, More, Node}
use Rattle.graphql_core.specs.{accepts, matches, leaves, sample, valued}
use Rattle.graphql_core.specs.lexical.Elements.{element_kind}
use Rattle.graphql_core.proofs.{SameLeaf, SameTrees, left_tree, right_tree, same_both, same_first, same_more, same_node, same_second}
use Rattle.graphql_core.proofs.values.TreesAlike.{blocks_last_at, matches_same, refilled, same_block, same_leaf, same_nothing, same_stop}
use Rattle.graphql_standard.specs.Grammar.{standard, is_good}
use Rattle.graphql_standard.specs.Checking.{token_and, tokens_of}
use Rattle.graphql_standard.specs.lexical.Elements.{IsElement}
use Rattle.graphql_standard.proofs.lexical.Following.{one_standard_division}
use Rattle.graphql_fmt.specs.{Kept, KeptToken, KeptBlock, KeptComment, kept_token, kept_element, kept, HasKept, KeepsIn}
use Rattle.graphql_fmt.specs.Trees.{HasTree, HasSameTrees, form_of}
use Rattle.graphql_fmt.proofs.KeptValues.{token_by}

-- ---- the values of tokens

-- the values of the tokens, by what is kept
abbrev values_by : List Kept → List Token
values_by [] = []
values_by (KeptToken k s ∷ ks) = token_by k s ∷ values_by ks
values_by (KeptBlock v ∷ ks) = token_by BlockString v ∷ values_by ks
values_by (KeptComment s ∷ ks) = values_by ks

ignored_values : (is_comment : Bool) (bytes : List ℕ) (ks : List Kept)
    → values_by (kept_element (if is_comment then element.Comment else element.Ignored) bytes ++ ks) ≡ values_by ks
ignored_values true bytes ks = refl
ignored_values false bytes ks = refl

token_values : (k : Kind) (s : List ℕ) (ks : List Kept) → values_by (kept_token k s ∷ ks) ≡ valued (sample k s) ∷ values_by ks
token_values Punctuator s ks = refl
token_values Name s ks = refl
token_values IntValue s ks = refl
token_values FloatValue s ks = refl
token_values StringValue s ks = refl
token_values BlockString s ks = refl

piece_values : (m : Meaning) (bytes : List ℕ) (ts : List Token) (ks : List Kept) → map valued ts ≡ values_by ks
    → map valued (token_and m bytes ts) ≡ values_by (kept_element (element_kind bytes m) bytes ++ ks)
piece_values (Ignored m) bytes ts ks h = h ∙ sym (ignored_values (slice_index bytes 0 == 35) bytes ks)
piece_values (TokenOf k n) bytes ts ks h = ap (λ (l : List Token). valued (sample k bytes) ∷ l) h ∙ sym (token_values k bytes ks)

all_values : (ps : List Piece) → map valued (tokens_of ps) ≡ values_by (kept ps)
all_values [] = refl
all_values (p ∷ ps) = piece_values p.meaning p.bytes (tokens_of ps) (kept ps) (all_values ps)

-- ---- the grammar of September 2025 respects values

good_same : (c : Class) (t u : Token) → SameLeaf c t u → accepts standard c u ≡ accepts standard c t
good_same (AnyOf k) t u e = ap (λ (b : Bool). b && true) (matches_same (AnyOf k) t u e)
good_same (Spelled k s) t u e = ap (λ (b : Bool). b && true) (matches_same (Spelled k s) t u e)
good_same (Except k []) t u e = ap (accepts standard (Except k [])) e
good_same (Except k (s ∷ ss)) t u e = ap (λ (b : Bool). b && true) (matches_same (Except k (s ∷ ss)) t u e)

same_form : (s : SameTrees) → form_of (right_tree s) ≡ form_of (left_tree s)
same_form same_nothing = refl
same_form (same_leaf t u e) = refl
same_form (same_block t u e) = refl
same_form (same_both x y) = λ i. Both (same_form x i) (same_form y i)
same_form (same_first x) = λ i. First (same_form x i)
same_form (same_second y) = λ i. Second (same_form y i)
same_form same_stop = refl
same_form (same_more x y) = λ i. More (same_form x i) (same_form y i)
same_form (same_node k x) = λ i. Node k (same_form x i)

-- ---- inputs with the same tokens and comments

pub same_trees : (source text : List ℕ) (ks : List Kept) → HasKept IsElement source ks → HasKept IsElement text ks → HasSameTrees source text
same_trees source text ks (ps, division, is) (qs, others, are) x (ts, (rs, mine, from), (fits, tokens)) =
    let (same, stops) = one_standard_division source ps rs [] [] division mine in
    let kept_same : kept qs ≡ kept rs = are ∙ sym is ∙ ap kept same in
    let alike : map valued (tokens_of qs) ≡ map valued (leaves x) =
    all_values qs ∙ ap values_by kept_same ∙ sym (all_values rs) ∙ ap (map valued) (sym from ∙ tokens) in
    let (s, left, fits_text, tokens_text) =
    refilled standard false good_same (λ k s. refl) (λ k. blocks_last_at standard.rows k refl) fits refl (tokens_of qs) alike in (
      right_tree s,
      (tokens_of qs, (qs, others, refl), (fits_text, tokens_text)),
      (same_form s ∙ ap form_of left, ap (map valued) (sym tokens_text) ∙ alike),
    )

-- the same for a text that keeps the tokens and the comments of the source
pub trees_kept : (source text : List ℕ) → KeepsIn IsElement source text → HasSameTrees source text
trees_kept source text keeps x (ts, (ps, division, is), derived) =
    same_trees source text (kept ps) (ps, division, refl) (keeps (kept ps) (ps, division, refl)) x (ts, (ps, division, is), derived)
