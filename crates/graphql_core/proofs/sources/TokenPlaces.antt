-- Where the tokens of an input are.
use Rattle.std.proofs.Common.{◌≡◌, ℕ, ◌+◌, ◌*◌, ◌<◌, ◌≤◌, Bool, true, false, List, [], ◌∷◌, ◌++◌, length, drop, IsUtf8, All, refl, sym, ap, ◌∙◌, subst}
use Rattle.std.proofs.Common.{arith, length-append, length-drop}
use Rattle.std.proofs.lemmas.List.{drop_at, take_at, drop-drop}
use Rattle.std.proofs.lemmas.List.Elements.{All-nil, All-cons}
use Rattle.std.proofs.lemmas.Str.{IsUtf8-take, IsUtf8-drop, IsCharBoundary-from_drop}
use Rattle.graphql_core.specs.declared.tokenizer.piece.Move.TheVariants.{Stay, Down, Over}
use Rattle.graphql_core.specs.{steps_over, Meaning, Ignored, TokenOf, IsLexicalElement, Piece, IsTokenizedInto, EndOfInput, LexicalError, past_character, past_characters}
use Rattle.graphql_core.specs.{Content}
use Rattle.graphql_core.specs.{Where, Item, item_at, TokenContent, HasItems, start, past_ignored, past_token, is_too_deep, token_then, piece_then, items_of}
use Rattle.graphql_core.specs.{too_deep, IsLexeme, token_of}
use Rattle.graphql_core.proofs.lexical.{Part, PieceFits, front_within, element_at_front, characters_fit, character_bounds}
use Rattle.graphql_core.specs.declared.tokenizer.piece.Move.{Move}
use Rattle.std.specs.Str.{chars, IsCharBoundary}
use Rattle.graphql_core.specs.declared.position.Pos.{Pos}
use Rattle.graphql_core.specs.declared.tokenizer.token.Kind.{Kind}
use Rattle.graphql_core.specs.declared.tokenizer.piece.Nesting.{Nesting}

-- ---- lexical elements

-- a lexical element is not empty, and ends at a character boundary
pub part : (m : Meaning) (bytes rest : List ℕ) → IsLexicalElement bytes m rest → Part (bytes ++ rest) (length bytes)
part (Ignored m) bytes rest st = (subst (PieceFits (bytes ++ rest)) (element_at_front st) (front_within (bytes ++ rest))).0
part (TokenOf k t) bytes rest st = subst (PieceFits (bytes ++ rest)) (element_at_front st) (front_within (bytes ++ rest))

-- ignored text takes at most eight columns
few_columns : (m : Move) (bytes rest : List ℕ) → IsLexicalElement bytes (Ignored m) rest → steps_over m ≤ 8
few_columns m bytes rest st = (subst (PieceFits (bytes ++ rest)) (element_at_front st) (front_within (bytes ++ rest))).1

-- this is the input from there on
abbrev pub IsAt : List ℕ → Where → List ℕ → Type 0
IsAt whole w text = (w.offset ≤ length whole) × (drop w.offset whole ≡ text) × IsUtf8 text

pub rest_at : (m : Meaning) (bytes rest whole : List ℕ) (w v : Where) → IsLexicalElement bytes m rest → IsAt whole w (bytes ++ rest) → v.offset ≡ w.offset + length bytes
    → IsAt whole v rest
rest_at m bytes rest whole w v st (within, is, utf8) moves =
    let p = part m bytes rest st in
    let n = length bytes in (
      omega (arith, moves, p.1, ap length is, length-drop w.offset whole, length-append bytes rest),
      ap (λ (k : ℕ). drop k whole) moves ∙ sym (drop-drop n w.offset whole) ∙ ap (drop n) is ∙ drop_at bytes rest n refl,
      subst IsUtf8 (drop_at bytes rest n refl) (IsUtf8-drop (bytes ++ rest) n utf8 (p.2 utf8)),
    )

-- ---- positions

-- a byte takes at most one line and eight columns
abbrev pub IsLow : Where → Type 0
IsLow w = (w.position.line ≤ w.offset + 1) × (w.position.column ≤ 8 * w.offset + 1)

ignored_low : (m : Move) (n : ℕ) (w : Where) → 0 < n → steps_over m ≤ 8 → IsLow w → IsLow (past_ignored m n w)
ignored_low Stay n w some few low = (omega (arith, low.0), omega (arith, low.1))
ignored_low (Over k) n w some few low = (omega (arith, low.0), omega (arith, low.1))
ignored_low Down n w some few low = (omega (arith, low.0), omega arith)

characters_low : (cs : List ℕ) (p : Pos) → ((past_characters cs p).line ≤ p.line + length cs) × ((past_characters cs p).column ≤ p.column + length cs)
characters_low [] p = (omega arith, omega arith)
characters_low (c ∷ cs) p =
    let here = character_bounds c p in
    let more = characters_low cs (past_character c p) in
    (omega (arith, here.0, more.0), omega (arith, here.1, more.1))

token_low : (t : Nesting) (bytes : List ℕ) (w : Where) → IsUtf8 bytes → IsLow w → IsLow (past_token t bytes w)
token_low t bytes w utf8 low =
    let h = characters_low (chars bytes) w.position in
    let fit = characters_fit bytes utf8 in
    (omega (arith, h.0, fit, low.0), omega (arith, h.1, fit, low.1))

-- ---- tokens

-- a token of this kind and spelling is there in the input
pub record IsToken (text : List ℕ) (w : Where) (k : Kind) (bytes : List ℕ) : Type 0 where
  pub rest : List ℕ
  pub is : drop w.offset text ≡ bytes ++ rest
  pub starts : IsCharBoundary text w.offset
  pub ends : IsCharBoundary (bytes ++ rest) (length bytes)
  pub within : w.offset + length bytes ≤ length text
  pub low : IsLow w
  pub lexeme : IsLexeme (token_of w.position k bytes)

abbrev pub Holds : List ℕ → Content → Where → Type 0
Holds text (TokenContent k bytes) w = IsToken text w k bytes
Holds text EndOfInput w = Unit {0}
Holds text (LexicalError b) w = Unit {0}

-- an item that is a token is in the input at its position
abbrev pub AppearsIn : List ℕ → Item → Type 0
AppearsIn text i = Holds text i.content i.place

only : (text : List ℕ) (i : Item) → AppearsIn text i → All (AppearsIn text) (i ∷ [])
only text i h = All-cons (AppearsIn text) i [] h (All-nil (AppearsIn text))

piece_appears : (m : Meaning) (bytes rest whole : List ℕ) (w : Where) (more : Where → List Item) → IsLexicalElement bytes m rest → IsAt whole w (bytes ++ rest) → IsLow w
    → ((v : Where) → IsAt whole v rest → IsLow v → All (AppearsIn whole) (more v)) → All (AppearsIn whole) (piece_then m more w bytes)
piece_appears (Ignored m) bytes rest whole w more st at low f =
    let v : Where = past_ignored m (length bytes) w in
    f v (rest_at (Ignored m) bytes rest whole w v st at refl)
    (ignored_low m (length bytes) w (part (Ignored m) bytes rest st).0 (few_columns m bytes rest st) low)
piece_appears (TokenOf k t) bytes rest whole w more st at low f = by (is_too_deep t w)
  where
    v : Where
    v = past_token t bytes w

    tokenized : Part (bytes ++ rest) (length bytes)
    tokenized = part (TokenOf k t) bytes rest st

    own : IsUtf8 bytes
    own = subst IsUtf8 (take_at bytes rest (length bytes) refl) (IsUtf8-take (bytes ++ rest) (length bytes) at.2 (tokenized.2 at.2))

    token : IsToken whole w k bytes
    token = record {
      rest = rest;
      is = at.1;
      starts = IsCharBoundary-from_drop whole w.offset at.0 (subst IsUtf8 (sym at.1) at.2);
      ends = tokenized.2 at.2;
      within = omega (arith, at.0, ap length at.1, length-drop w.offset whole, length-append bytes rest);
      low = low;
      lexeme = (k, t, rest, refl, st);
    }

    by : (b : Bool) → All (AppearsIn whole) (token_then b (item_at (LexicalError too_deep) w) (item_at (TokenContent k bytes) w) (more v))
    by true = only whole (item_at (LexicalError too_deep) w) tt
    by false =
        All-cons (AppearsIn whole) (item_at (TokenContent k bytes) w) (more v) token
        (f v (rest_at (TokenOf k t) bytes rest whole w v st at refl) (token_low t bytes w own low))

items_appear : (ps : List Piece) (whole text stop : List ℕ) (w : Where) → IsTokenizedInto text ps stop → IsAt whole w text → IsLow w
    → All (AppearsIn whole) (items_of w ps stop)
unfolding items_of
items_appear [] whole text [] w tokenized at low = only whole _ tt
items_appear [] whole text (b ∷ bs) w tokenized at low = only whole _ tt
items_appear (q ∷ qs) whole text stop w (rest, e, st, more) at low =
    piece_appears q.meaning q.bytes rest whole w (λ v. items_of v qs stop) st (subst (IsAt whole w) e at) low
    (λ v h l. items_appear qs whole rest stop v more h l)

-- the tokens of an input are in it at their positions
pub tokens_appear : (text : List ℕ) (items : List Item) → IsUtf8 text → HasItems text items → All (AppearsIn text) items
tokens_appear text items utf8 (pieces, stop, tokenized, e) =
    subst (All (AppearsIn text)) (sym e) (items_appear pieces text text stop start tokenized (omega arith, refl, utf8) (omega arith, omega arith))
