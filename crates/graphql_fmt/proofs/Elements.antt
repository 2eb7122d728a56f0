-- The lexical elements of an input, and the tokens and comments among them.
use Rattle.std.specs.List.{list_all}
use Rattle.std.specs.Char.{is_ascii_whitespace}
use Rattle.std.proofs.Common.{◌≡◌, ℕ, Bool, true, false, cond, ◌==◌, List, [], ◌∷◌, ◌++◌, map, length, refl, sym, ap, ◌∙◌, subst}
use Rattle.std.proofs.Common.{append_assoc, arith}
use Rattle.std.proofs.lemmas.Bool.{and_parts, and_from}
use Rattle.std.proofs.lemmas.Bool.Decides.{nat_tests}
use Rattle.std.proofs.lemmas.List.{append-nil, map-append}
use Rattle.graphql_core.specs.declared.tokenizer.piece.Move.{Move}
use Rattle.graphql_core.specs.declared.tokenizer.token.Kind.{Kind}
use Rattle.graphql_core.specs.declared.tokenizer.token.Kind.TheVariants.{BlockString}
use Rattle.graphql_core.specs.declared.tokenizer.element.ElementKind.{ElementKind}
use Rattle.graphql_core.specs.declared.tokenizer.element.ElementKind.TheVariants as element
use Rattle.graphql_core.specs.{is_in_line, Meaning, Ignored, TokenOf, IsLexicalElement}
use Rattle.graphql_core.specs.lexical.Elements.{element_kind, ignored_kind}
use Rattle.graphql_core.specs.lexical.Lexical.{Piece as Element, ignored_tab, ignored_line_feed, ignored_carriage_return, ignored_space, ignored_comma}
use Rattle.graphql_core.specs.lexical.Lexical.{ignored_byte_order_mark, comment_at_end, comment_feed, comment_return_feed, comment_return}
use Rattle.graphql_core.specs.strings.BlockStrings.{IsInTripleQuotes}
use Rattle.graphql_core.specs.values.Leaves.{without_ends}
use Rattle.graphql_core.proofs.{spelled_as}
use Rattle.graphql_standard.specs.lexical.Elements.{LexicalGrammar, BeginsNoneOf, BeginsWithOneOf, IsDividedInto, IsEither}
use Rattle.graphql_standard.proofs.lexical.Following.{one_either_division}
use Rattle.graphql_standard.proofs.lexical.Laws.{LexicalLaws, shared_in_core}
use Rattle.graphql_fmt.specs.Keeping.{Kept, trimmed, trimmed_after, kept_element, kept, HasKept}
use Rattle.graphql_fmt.specs.Tidy.{IsBlockString}
use Rattle.graphql_fmt.specs.declared.pieces.piece.PieceKind.{PieceKind}
use Rattle.graphql_fmt.specs.declared.pieces.piece.PieceKind.TheVariants as piece
use Rattle.graphql_fmt.specs.declared.pieces.piece.Piece.{Piece}
use Rattle.graphql_fmt.specs.steps.Pieces.{kept_by, kept_piece, IsSpelling, IsSomeElement, spelled_element, spelled, spelled_piece, HasCome, ArePiecesOf}
use Rattle.graphql_fmt.proofs.Trimmed.{trimmed_white, trimmed_stays}

-- ---- comments

alone_in_line : (t : Bool) (b : ℕ) → is_in_line b ≡ true → list_all is_in_line (cond t [] (b ∷ [])) ≡ true
alone_in_line true b h = refl
alone_in_line false b h = rw h refl

trimmed_in_line_after : (b : ℕ) (r : List ℕ) → is_in_line b ≡ true → list_all is_in_line r ≡ true → list_all is_in_line (trimmed_after b r) ≡ true
trimmed_in_line_after b [] h all = alone_in_line (is_ascii_whitespace b) b h
trimmed_in_line_after b (c ∷ cs) h all = and_from (is_in_line b) _ h all

trimmed_in_line : (line : List ℕ) → list_all is_in_line line ≡ true → list_all is_in_line (trimmed line) ≡ true
trimmed_in_line [] all = refl
trimmed_in_line (b ∷ line) all =
    let h = and_parts (is_in_line b) (list_all is_in_line line) all in trimmed_in_line_after b (trimmed line) h.0 (trimmed_in_line line h.1)

sign_stays : (r : List ℕ) → trimmed_after 35 r ≡ 35 ∷ r
sign_stays [] = refl
sign_stays (c ∷ cs) = refl

a_line : (line end : List ℕ) → list_all is_in_line line ≡ true → trimmed end ≡ [] → IsSpelling IsEither piece.Comment (trimmed (35 ∷ (line ++ end)))
a_line line end all white = (
  trimmed line,
  ap (trimmed_after 35) (trimmed_white line end white) ∙ sign_stays (trimmed line),
  trimmed_in_line line all,
  trimmed_stays (35 ∷ (line ++ end)),
)

-- ignored text of the kind of a comment, trimmed
a_comment : {bytes : List ℕ} {m : Move} {rest : List ℕ} → IsLexicalElement bytes (Ignored m) rest → ignored_kind bytes ≡ element.Comment
    → IsSpelling IsEither piece.Comment (trimmed bytes)
a_comment ignored_tab h = absurd cc
a_comment ignored_line_feed h = absurd cc
a_comment ignored_carriage_return h = absurd cc
a_comment ignored_space h = absurd cc
a_comment ignored_comma h = absurd cc
a_comment ignored_byte_order_mark h = absurd cc
a_comment (comment_at_end line all) h = subst (λ (l : List ℕ). IsSpelling IsEither piece.Comment (trimmed (35 ∷ l))) (append-nil line) (a_line line [] all refl)
a_comment (comment_feed line all) h = a_line line (10 ∷ []) all refl
a_comment (comment_return_feed line all) h = a_line line (13 ∷ 10 ∷ []) all refl
a_comment (comment_return line all stop) h = a_line line (13 ∷ []) all refl

no_token : (bytes : List ℕ) (k : Kind) → ignored_kind bytes ≡ element.Token k → ⊥
no_token [] k h = absurd cc
no_token (b ∷ bs) k h = either (b == 35) h where
  either : (t : Bool) → cond t element.Comment element.Ignored ≡ element.Token k → ⊥
  either true e = absurd cc
  either false e = absurd cc

-- ---- elements as pieces

comment_in_core : {m : Move} {bytes rest : List ℕ} → IsEither bytes (Ignored m) rest → ignored_kind bytes ≡ element.Comment
    → IsSpelling IsEither piece.Comment (trimmed bytes)
comment_in_core el is = a_comment (shared_in_core refl el) is

pub comment_spelling : (bytes : List ℕ) → IsSomeElement element.Comment bytes → IsSpelling IsEither piece.Comment (trimmed bytes)
comment_spelling bytes (Ignored m, rest, el, is) = comment_in_core el is
comment_spelling bytes (TokenOf k n, rest, el, is) = absurd cc

pub token_spelling : (k : Kind) (bytes : List ℕ) → IsSomeElement (element.Token k) bytes → IsSpelling IsEither (piece.Token k) bytes
token_spelling k bytes (Ignored m, rest, el, is) = absurd (no_token bytes k is)
token_spelling k bytes (TokenOf j n, rest, el, is) = let same : j ≡ k = cc in (n, rest, subst (λ (i : Kind). IsEither bytes (TokenOf i n) rest) same el)

-- a block string of either lexical grammar
pub block_spelling : (spelling : List ℕ) → IsSpelling IsEither (piece.Token BlockString) spelling → IsBlockString spelling
block_spelling spelling (n, rest, el) = (n, rest, shared_in_core refl el)

-- an input that is one block string
pub whole_block : (text bytes rest : List ℕ) (kind : ElementKind) → BeginsWithOneOf IsEither text kind bytes rest → kind ≡ element.Token BlockString
    → rest ≡ [] → IsBlockString text
whole_block text bytes rest kind (m, e, el, one) is none =
    let whole = e ∙ ap (λ (l : List ℕ). bytes ++ l) none ∙ append-nil bytes in
    subst IsBlockString (sym whole) (block_spelling bytes (token_spelling BlockString bytes (m, rest, el, one ∙ is)))

pub block_quotes : (spelling : List ℕ) → IsBlockString spelling → IsInTripleQuotes spelling (without_ends 3 spelling)
block_quotes spelling (n, rest, st) = spelled_as st

-- ---- elements of one lexical grammar

-- these are tokens of the lexical grammar, and comments
abbrev pub AreSpelled : LexicalGrammar → List (PieceKind × List ℕ) → Type 0
AreSpelled E [] = Unit {0}
AreSpelled E (q ∷ qs) = IsSpelling E q.0 q.1 × AreSpelled E qs

module _ {E : LexicalGrammar} (laws : LexicalLaws E) where
  spelled_both : (qs more : List (PieceKind × List ℕ)) → AreSpelled E qs → AreSpelled E more → AreSpelled E (qs ++ more)
  spelled_both [] more own others = others
  spelled_both (q ∷ qs) more (one, own) others = (one, spelled_both qs more own others)

  ignored_spelled : (kind : ElementKind) (m : Move) (bytes rest : List ℕ) → IsEither bytes (Ignored m) rest → ignored_kind bytes ≡ kind
      → AreSpelled E (spelled_element kind bytes)
  ignored_spelled (element.Token k) m bytes rest el is = absurd (no_token bytes k is)
  ignored_spelled element.Comment m bytes rest el is = (comment_in_core el is, tt)
  ignored_spelled element.Ignored m bytes rest el is = tt

  element_spelled : (m : Meaning) (bytes rest : List ℕ) → E bytes m rest → AreSpelled E (spelled_element (element_kind bytes m) bytes)
  element_spelled (Ignored m) bytes rest el = ignored_spelled (ignored_kind bytes) m bytes rest (laws.either bytes (Ignored m) rest el) refl
  element_spelled (TokenOf k n) bytes rest el = ((n, rest, el), tt)

  pub all_spelled : (text : List ℕ) (ps : List Element) (stop : List ℕ) → IsDividedInto E text ps stop → AreSpelled E (spelled ps)
  all_spelled text [] stop division = tt
  all_spelled text (p ∷ ps) stop (rest, e, el, more) =
      spelled_both (spelled_element (element_kind p.bytes p.meaning) p.bytes) (spelled ps) (element_spelled p.meaning p.bytes rest el)
      (all_spelled rest ps stop more)

-- ---- what is kept of tokens and comments

abbrev kept_of : PieceKind × List ℕ → Kept
kept_of q = kept_by q.0 q.1

kept_one : (kind : ElementKind) (bytes : List ℕ) → kept_element kind bytes ≡ map kept_of (spelled_element kind bytes)
kept_one (element.Token k) bytes = refl
kept_one element.Comment bytes = refl
kept_one element.Ignored bytes = refl

kept_all : (ps : List Element) → kept ps ≡ map kept_of (spelled ps)
kept_all [] = refl
kept_all (p ∷ ps) =
    let kind = element_kind p.bytes p.meaning in
    (λ i. kept_one kind p.bytes i ++ kept_all ps i) ∙ sym (map-append kept_of (spelled_element kind p.bytes) (spelled ps))

kept_pieces : (pieces : List Piece) → map kept_of (map spelled_piece pieces) ≡ map kept_piece pieces
kept_pieces [] = refl
kept_pieces (p ∷ pieces) = ap (λ (ks : List Kept). kept_piece p ∷ ks) (kept_pieces pieces)

pub kept_is : (ps : List Element) (pieces : List Piece) → spelled ps ≡ map spelled_piece pieces → kept ps ≡ map kept_piece pieces
kept_is ps pieces e = kept_all ps ∙ ap (map kept_of) e ∙ kept_pieces pieces

-- ---- the elements before a rest

pub come_on : (source rest more bytes : List ℕ) (kind : ElementKind) (done later : List Piece) → HasCome source done rest
    → BeginsWithOneOf IsEither rest kind bytes more → map spelled_piece later ≡ map spelled_piece done ++ spelled_element kind bytes
    → HasCome source later more
come_on source rest more bytes kind done later come (m, e, el, one) all ps stop division =
    let (whole, is, spelled_is) = come (record { bytes = bytes; meaning = m } ∷ ps) stop (more, e, el, division) in (
      whole,
      is,
      spelled_is ∙ ap (λ (k : ElementKind). map spelled_piece done ++ (spelled_element k bytes ++ spelled ps)) one
          ∙ sym (append_assoc (map spelled_piece done) (spelled_element kind bytes) (spelled ps))
          ∙ ap (λ (l : List (PieceKind × List ℕ)). l ++ spelled ps) (sym all),
    )

pub all_come : (source rest : List ℕ) (done : List Piece) → HasCome source done rest → rest ≡ [] → BeginsNoneOf IsEither rest → ArePiecesOf source done
all_come source rest done come e none =
    let (whole, is, spelled_is) = come [] [] (e, subst (BeginsNoneOf IsEither) e none) in
    (whole, is, spelled_is ∙ append-nil (map spelled_piece done))

pub some_left : (source rest : List ℕ) (done : List Piece) → HasCome source done rest → BeginsNoneOf IsEither rest → (ks : List Kept)
    → HasKept IsEither source ks → rest ≡ []
some_left source rest done come none ks (ps, division, e) =
    let (whole, is, spelled_is) = come [] rest (refl, none) in (one_either_division source whole ps rest [] is division).1

pub nothing_left : (rest : List ℕ) (b : Bool) → b ≡ (length rest == 0) → b ≡ true → rest ≡ []
nothing_left [] b e h = refl
nothing_left (x ∷ rest) b e h = absurd (grind (arith, nat_tests, e, h))

pub something_left : (rest : List ℕ) (b : Bool) → b ≡ (length rest == 0) → b ≡ false → rest ≡ [] → ⊥
something_left rest b e h none = let z : length rest ≡ 0 = ap length none in absurd (grind (arith, nat_tests, e, h, z))
