-- Output made of pieces has their tokens and their comments.
use Rattle.std.specs.List.{list_all}
use Rattle.std.proofs.Common.{◌≡◌, ℕ, zero, suc, Bool, true, false, cond, Result, Ok, Err, OnOk, replicate, ◌||◌, ◌==◌, List, [], ◌∷◌, ◌++◌, map}
use Rattle.std.proofs.Common.{◌+◌, ◌<◌, length, drop, get_or, refl, sym, ap, ◌∙◌, subst, append_assoc, arith, inl, inr, eqb-true}
use Rattle.std.proofs.lemmas.Bool.{and_parts, or_cases}
use Rattle.std.proofs.lemmas.Bool.Decides.{nat_tests}
use Rattle.std.proofs.lemmas.List.{drop_more}
use Rattle.graphql_core.specs.declared.tokenizer.piece.Move.{Move}
use Rattle.graphql_core.specs.declared.tokenizer.piece.Move.TheVariants.{Over, Down}
use Rattle.graphql_core.specs.declared.tokenizer.piece.Nesting.TheVariants.{Unchanged}
use Rattle.graphql_core.specs.declared.tokenizer.token.Kind.{Kind}
use Rattle.graphql_core.specs.declared.tokenizer.token.Kind.TheVariants.{BlockString}
use Rattle.graphql_core.specs.{Meaning, Ignored, TokenOf, IsLexicalElement, block_string_of, in_block_form, has_block_lines, nowhere, MayFollow}
use Rattle.graphql_standard.specs.lexical.Elements.{LexicalGrammar}
use Rattle.graphql_standard.proofs.lexical.Laws.{LexicalLaws, either_follows, none_at_the_end}
use Rattle.graphql_core.specs.lexical.Elements.{element_kind, ignored_kind}
use Rattle.graphql_core.specs.sources.Minified.{space_if}
use Rattle.graphql_core.specs.lexical.Lexical.{ignored_line_feed, ignored_space, ignored_comma, comment_feed}
use Rattle.graphql_core.proofs.{block_word, block_lines_mean}
use Rattle.graphql_fmt.specs.Keeping.{Kept, KeptBlock, KeptComment, trimmed, kept_token, kept_element, HasKept}
use Rattle.graphql_fmt.specs.declared.pieces.piece.PieceKind.{PieceKind}
use Rattle.graphql_fmt.specs.declared.pieces.piece.PieceKind.TheVariants as piece
use Rattle.graphql_fmt.specs.declared.pieces.piece.Piece.{Piece}
use Rattle.graphql_fmt.specs.declared.pieces.gap.Gap.{Gap}
use Rattle.graphql_fmt.specs.declared.pieces.gap.Gap.TheVariants.{Nothing, Space, Comma, Line}
use Rattle.graphql_fmt.specs.steps.Pieces.{kept_by, kept_piece, spelled_piece, IsSpelling, IsPiece, ArePieces}
use Rattle.graphql_fmt.specs.steps.Joining.{gap_bytes, IsApartToken, IsApart, HasSameBlock, IsWrittenFor, AreJoinedAfter, AreJoined}
use Rattle.graphql_fmt.proofs.Elements.{AreSpelled}
use Rattle.graphql_fmt.proofs.Trimmed.{trimmed_white}
use Rattle.graphql_core.proofs.sources.Minifying.{delimiter_follows}

-- ---- gaps

-- a space, a line feed or a comma
abbrev is_white : ℕ → Bool
is_white b = b == 32 || b == 10 || b == 44

white_follows : (k : Kind) (b : ℕ) (more : List ℕ) → is_white b ≡ true → MayFollow k (b ∷ more)
white_follows k b more h = delimiter_follows k b more (grind (arith, nat_tests))

spaces_white : (n : ℕ) → list_all is_white (replicate n 32) ≡ true
spaces_white zero = refl
spaces_white (suc n) = spaces_white n

lines_white : (b : Bool) (n : ℕ) → list_all is_white (cond b (10 ∷ []) [] ++ replicate n 32) ≡ true
lines_white true n = spaces_white n
lines_white false n = spaces_white n

gap_white : (g : Gap) → list_all is_white (gap_bytes g) ≡ true
gap_white Nothing = refl
gap_white Space = refl
gap_white Comma = refl
gap_white (Line indent is_blank) = lines_white is_blank indent

-- ---- block strings

apart_block : (before : PieceKind) (gap s t : List ℕ) → IsApart before gap (piece.Token BlockString) s → IsApart before gap (piece.Token BlockString) t
apart_block (piece.Token k) [] s t h = h
apart_block (piece.Token k) (b ∷ gap) s t h = h
apart_block piece.Comment gap s t h = h

pub block_written : (p : Piece) (margin : ℕ) (value : List ℕ) → p.kind ≡ piece.Token BlockString → value ≡ block_string_of p.text.now
    → has_block_lines value ≡ true → IsWrittenFor p (in_block_form margin margin value)
block_written p margin value kind is lines =
    inr (kind, ((Unchanged, [], block_word margin margin value [] tt), block_lines_mean margin margin value lines ∙ is))

-- what is written for a piece: another spelling for which the same is kept, and which is kept apart from the piece before it
record IsSameAs (E : LexicalGrammar) (p : Piece) (s : List ℕ) : Type 0 where
  spelling : IsSpelling E p.kind s
  kept : kept_by p.kind s ≡ kept_piece p
  apart : (before : PieceKind) (gap : List ℕ) → IsApart before gap p.kind p.text.now → IsApart before gap p.kind s

-- ---- the output in one lexical grammar

module _ {E : LexicalGrammar} (laws : LexicalLaws E) where
  has_none : HasKept E [] []
  has_none = ([], (refl, none_at_the_end laws), refl)

  then_kept : (m : Meaning) (bytes rest : List ℕ) (own ks : List Kept) → E bytes m rest → kept_element (element_kind bytes m) bytes ≡ own
      → HasKept E rest ks → HasKept E (bytes ++ rest) (own ++ ks)
  then_kept m bytes rest own ks el e (ps, division, f) = (record { bytes = bytes; meaning = m } ∷ ps, (rest, refl, el, division), λ i. e i ++ f i)

  ignored_kept : (m : Move) (bytes rest : List ℕ) (own ks : List Kept) → IsLexicalElement bytes (Ignored m) rest → kept_element (ignored_kind bytes) bytes ≡ own
      → HasKept E rest ks → HasKept E (bytes ++ rest) (own ++ ks)
  ignored_kept m bytes rest own ks st e has = then_kept (Ignored m) bytes rest own ks (laws.shared bytes (Ignored m) rest refl st) e has

  white_byte : (b : ℕ) (rest : List ℕ) (ks : List Kept) → is_white b ≡ true → HasKept E rest ks → HasKept E (b ∷ rest) ks
  white_byte b rest ks h has =
      elim (or_cases (b == 32 || b == 10) (b == 44) h) [
        | inl one ↦ elim (or_cases (b == 32) (b == 10) one) [
          | inl e ↦ rw (eqb-true b 32 e) (ignored_kept (Over 1) (32 ∷ []) rest [] ks ignored_space refl has)
          | inr e ↦ rw (eqb-true b 10 e) (ignored_kept Down (10 ∷ []) rest [] ks ignored_line_feed refl has)
        ]
        | inr e ↦ rw (eqb-true b 44 e) (ignored_kept (Over 1) (44 ∷ []) rest [] ks ignored_comma refl has)
      ]

  white_kept : (gap rest : List ℕ) (ks : List Kept) → list_all is_white gap ≡ true → HasKept E rest ks → HasKept E (gap ++ rest) ks
  white_kept [] rest ks h has = has
  white_kept (b ∷ gap) rest ks h has =
      let (one, more) = and_parts (is_white b) (list_all is_white gap) h in white_byte b (gap ++ rest) ks one (white_kept gap rest ks more has)

  -- `rest` can follow a piece of this kind, and has these tokens and comments; after a comment it begins with a line end
  abbrev Follows : PieceKind → (rest : List ℕ) → List Kept → Type 0
  Follows (piece.Token k) rest ks = MayFollow k rest × HasKept E rest ks
  Follows piece.Comment rest ks = (more : List ℕ) × (rest ≡ 10 ∷ more) × HasKept E more ks

  token_kept : (k : Kind) (s rest : List ℕ) (ks : List Kept) → IsSpelling E (piece.Token k) s → MayFollow k rest → HasKept E rest ks
      → HasKept E (s ++ rest) (kept_token k s ∷ ks)
  token_kept k s rest ks (n, more, el) f has = then_kept (TokenOf k n) s rest (kept_token k s ∷ []) ks (laws.before s k n more rest el f) refl has

  -- a comment, and the end of its line
  comment_kept : (s rest : List ℕ) (ks : List Kept) → IsSpelling E piece.Comment s → HasKept E rest ks → HasKept E (s ++ 10 ∷ rest) (KeptComment s ∷ ks)
  comment_kept s rest ks (line, e, all, same) has =
      let kept_is : KeptComment (trimmed (35 ∷ (line ++ 10 ∷ []))) ∷ [] ≡ KeptComment s ∷ [] = ap (λ (l : List ℕ). KeptComment l ∷ [])
      (trimmed_white (35 ∷ line) (10 ∷ []) refl ∙ ap trimmed (sym e) ∙ same) in
      let whole = ignored_kept Down (35 ∷ (line ++ 10 ∷ [])) rest (KeptComment s ∷ []) ks (comment_feed line all) kept_is has in
      let text : 35 ∷ (line ++ 10 ∷ []) ++ rest ≡ s ++ 10 ∷ rest =
      ap (λ (l : List ℕ). 35 ∷ l) (append_assoc line (10 ∷ []) rest) ∙ ap (λ (l : List ℕ). l ++ 10 ∷ rest) (sym e) in
      subst (λ (l : List ℕ). HasKept E l (KeptComment s ∷ ks)) text whole

  -- a piece of this spelling, and what follows it
  spelling_kept : (kind : PieceKind) (s rest : List ℕ) (ks : List Kept) → IsSpelling E kind s → Follows kind rest ks
      → HasKept E (s ++ rest) (kept_by kind s ∷ ks)
  spelling_kept (piece.Token k) s rest ks is (f, has) = token_kept k s rest ks is f has
  spelling_kept piece.Comment s rest ks is (more, e, has) =
      subst (λ (l : List ℕ). HasKept E (s ++ l) (KeptComment s ∷ ks)) (sym e) (comment_kept s more ks is has)

  -- ---- what keeps pieces apart

  apart_follows : (k : Kind) (gap : List ℕ) (kind : PieceKind) (s more : List ℕ) → list_all is_white gap ≡ true → IsSpelling E kind s
      → IsApartToken k gap kind s → MayFollow k (gap ++ (s ++ more))
  apart_follows k (b ∷ gap) kind s more white is h = white_follows k b _ (and_parts (is_white b) (list_all is_white gap) white).0
  apart_follows k [] piece.Comment s more white (line, e, all, same) h = rw e (delimiter_follows k 35 _ refl)
  apart_follows k [] (piece.Token j) s more white (n, rest, el) h =
      subst (λ (b : Bool). MayFollow k (space_if b ++ (s ++ more))) h (either_follows k (laws.either s (TokenOf j n) rest el) nowhere more)

  -- a gap and a piece follow a piece that they are kept apart from
  gap_follows : (before : PieceKind) (gap : List ℕ) (kind : PieceKind) (s rest : List ℕ) (ks : List Kept) → list_all is_white gap ≡ true
      → IsSpelling E kind s → IsApart before gap kind s → Follows kind rest ks → Follows before (gap ++ (s ++ rest)) (kept_by kind s ∷ ks)
  gap_follows (piece.Token k) gap kind s rest ks white is apart f =
      (apart_follows k gap kind s rest white is apart, white_kept gap (s ++ rest) _ white (spelling_kept kind s rest ks is f))
  gap_follows piece.Comment [] kind s rest ks white is apart f = absurd apart
  gap_follows piece.Comment (b ∷ gap) kind s rest ks white is apart f =
      let more = (and_parts (is_white b) (list_all is_white gap) white).1 in
      (gap ++ (s ++ rest), ap (λ (c : ℕ). c ∷ (gap ++ (s ++ rest))) apart, white_kept gap (s ++ rest) _ more (spelling_kept kind s rest ks is f))

  -- a line end follows any piece
  end_follows : (kind : PieceKind) → Follows kind (10 ∷ []) []
  end_follows (piece.Token k) = (white_follows k 10 [] refl, white_kept (10 ∷ []) [] [] refl has_none)
  end_follows piece.Comment = ([], refl, has_none)

  -- ---- what is written for a piece

  same_block : (p : Piece) (s : List ℕ) → p.kind ≡ piece.Token BlockString → HasSameBlock p.text.now s → IsSameAs E p s
  same_block p s kind ((n, rest, st), same) =
      let is : IsSpelling E (piece.Token BlockString) s = (n, rest, laws.shared s (TokenOf BlockString n) rest refl st) in
      record {
        spelling = subst (λ (k : PieceKind). IsSpelling E k s) (sym kind) is;
        kept = ap (λ (k : PieceKind). kept_by k s) kind ∙ ap KeptBlock same ∙ sym (ap (λ (k : PieceKind). kept_by k p.text.now) kind);
        apart = subst (λ (k : PieceKind). (before : PieceKind) (gap : List ℕ) → IsApart before gap k p.text.now → IsApart before gap k s) (sym kind)
            (λ before gap h. apart_block before gap p.text.now s h);
      }

  written_same : (p : Piece) (s : List ℕ) → IsSpelling E p.kind p.text.now → IsWrittenFor p s → IsSameAs E p s
  written_same p s is (inl e) = record {
    spelling = subst (IsSpelling E p.kind) (sym e) is;
    kept = ap (kept_by p.kind) e;
    apart = λ before gap h. subst (IsApart before gap p.kind) (sym e) h;
  }
  written_same p s is (inr (kind, same)) = same_block p s kind same

  -- ---- pieces one after another

  joined_after : (before : PieceKind) (ps : List Piece) (text : List ℕ) → AreSpelled E (map spelled_piece ps) → AreJoinedAfter before ps text
      → Follows before text (map kept_piece ps)
  joined_after before [] text is e = subst (λ (l : List ℕ). Follows before l []) (sym e) (end_follows before)
  joined_after before (p ∷ ps) text (one, is) (gap, s, rest, e, apart, written, more) =
      let same = written_same p s one written in
      let follows = gap_follows before (gap_bytes gap) p.kind s rest (map kept_piece ps) (gap_white gap) same.spelling
      (same.apart before (gap_bytes gap) apart) (joined_after p.kind ps rest is more) in
      subst (λ (l : List ℕ). Follows before l (kept_piece p ∷ map kept_piece ps)) (sym e)
      (subst (λ (k : Kept). Follows before (gap_bytes gap ++ (s ++ rest)) (k ∷ map kept_piece ps)) same.kept follows)

  -- joined pieces are tokens and comments of the lexical grammar, if each is spelled in it
  pub joined_kept : (ps : List Piece) (text : List ℕ) → AreSpelled E (map spelled_piece ps) → AreJoined ps text → HasKept E text (map kept_piece ps)
  joined_kept [] text is e = subst (λ (l : List ℕ). HasKept E l []) (sym e) has_none
  joined_kept (p ∷ ps) text (one, is) (s, rest, e, written, more) =
      let same = written_same p s one written in
      let has = spelling_kept p.kind s rest (map kept_piece ps) same.spelling (joined_after p.kind ps rest is more) in
      subst (λ (l : List ℕ). HasKept E l (kept_piece p ∷ map kept_piece ps)) (sym e)
      (subst (λ (k : Kept). HasKept E (s ++ rest) (k ∷ map kept_piece ps)) same.kept has)

-- ---- the program's pieces and calls

pub add_pieces : (ps : List Piece) (q : Piece) → ArePieces ps → IsPiece q → ArePieces (ps ++ q ∷ [])
add_pieces [] q all is = (is, tt)
add_pieces (p ∷ ps) q (one, all) is = (one, add_pieces ps q all is)

-- ---- output as it grows

-- what is left after a piece of this kind completes the output to all pieces
abbrev pub Joins : (all : List Piece) (out : List ℕ) (before : PieceKind) (left : List Piece) → Type 0
Joins all out before left = (rest : List ℕ) → AreJoinedAfter before left rest → AreJoined all (out ++ rest)

pub joins_first : (ps : List Piece) (p : Piece) (others : List Piece) (new out s : List ℕ) → ps ≡ p ∷ others → new ≡ [] → out ≡ new ++ s
    → IsWrittenFor p s → Joins ps out p.kind others
joins_first ps p others new out s parts none e written rest after =
    let same = e ∙ ap (λ (l : List ℕ). l ++ s) none in
    subst (λ (l : List Piece). AreJoined l (out ++ rest)) (sym parts) (s, rest, ap (λ (l : List ℕ). l ++ rest) same, written, after)

-- a gap and a spelling add the next piece
pub joins_on : (all : List Piece) (old middle new s : List ℕ) (gap : Gap) (before : PieceKind) (ps : List Piece) (i : ℕ) (d : Piece) → i < length ps
    → Joins all old before (drop i ps) → IsApart before (gap_bytes gap) (get_or ps i d).kind (get_or ps i d).text.now
    → middle ≡ old ++ gap_bytes gap → new ≡ middle ++ s → IsWrittenFor (get_or ps i d) s → Joins all new (get_or ps i d).kind (drop (i + 1) ps)
joins_on all old middle new s gap before ps i d h joins apart e f written rest after =
    let here = subst (λ (l : List Piece). Joins all old before l) (drop_more ps i d h) joins in
    let bytes = gap_bytes gap in
    let text : old ++ (bytes ++ (s ++ rest)) ≡ new ++ rest =
    sym (append_assoc old bytes (s ++ rest)) ∙ sym (append_assoc (old ++ bytes) s rest) ∙ ap (λ (l : List ℕ). (l ++ s) ++ rest) (sym e)
    ∙ ap (λ (l : List ℕ). l ++ rest) (sym f) in
    subst (AreJoined all) text (here (bytes ++ (s ++ rest)) (gap, s, rest, refl, apart, written, after))

-- a line end completes the output when no piece is left
pub joins_end : (all : List Piece) (out text : List ℕ) (before : PieceKind) (left : List Piece) → Joins all out before left → left ≡ []
    → text ≡ out ++ 10 ∷ [] → AreJoined all text
joins_end all out text before left joins none e =
    let ends = subst (λ (ps : List Piece). Joins all out before ps) none joins in
    subst (AreJoined all) (sym e) (ends (10 ∷ []) refl)

-- without pieces the output is empty
pub none_joined : (ps : List Piece) (out : List ℕ) → length ps ≡ 0 → out ≡ [] → AreJoined ps out
none_joined [] out none e = e
none_joined (p ∷ ps) out none e = absurd (omega arith)

-- ---- calls that append

-- the call appends what can be written for the piece
pub appends_for : {T E : Type 0} (r : Result T E) (p : Piece) (old new s : List ℕ) → IsWrittenFor p s → OnOk r (new ≡ old ++ s)
    → OnOk r ((s : List ℕ) × (new ≡ old ++ s) × IsWrittenFor p s)
appends_for (Ok x) p old new s written e = (s, e, written)
appends_for (Err x) p old new s written e = tt
