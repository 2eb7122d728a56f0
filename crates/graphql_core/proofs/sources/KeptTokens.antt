-- Tokens of an input of which the last is a punctuator stay the same, whatever follows them.
use Rattle.std.proofs.Common.{◌≡◌, ℕ, ◌+◌, ◌<◌, ◌≤◌, Bool, true, false, List, [], ◌∷◌, ◌++◌, length, drop, take, refl, sym, ap, subst, ◌∙◌, arith}
use Rattle.std.proofs.Common.{length-append, append_assoc}
use Rattle.std.proofs.lemmas.List.{take_at, take-append-le, take-append-drop}
use Rattle.graphql_core.specs.{ignored_tab, ignored_line_feed, ignored_carriage_return, ignored_comma, ignored_byte_order_mark, comment_feed}
use Rattle.graphql_core.specs.{comment_return_feed, comment_return, name_token, punctuator_token, ignored_space, Meaning, Ignored, TokenOf, Piece, IsTokenizedInto}
use Rattle.graphql_core.specs.{IsLexicalElement, spread_token, integer_token, float_token, string_token, block_string_token, LexicalError, items_of, Where, Item, item_at}
use Rattle.graphql_core.specs.{TokenContent, past_ignored, past_token, is_too_deep, token_then, piece_then, token_of, split, Token, too_deep, next_place}
use Rattle.graphql_core.specs.{kind_number}
use Rattle.graphql_core.proofs.lexical.{tokenization_of}
use Rattle.graphql_core.specs.declared.tokenizer.piece.Move.{Move}
use Rattle.graphql_core.specs.declared.tokenizer.token.Kind.{Kind}
use Rattle.graphql_core.specs.declared.tokenizer.token.Kind.TheVariants.{Punctuator}
use Rattle.graphql_core.specs.declared.tokenizer.piece.Nesting.{Nesting}
use Rattle.graphql_core.proofs.sources.TokenPlaces.{part}

-- ---- what can follow a lexical element

-- a lexical element stays the same if the first byte after it does
pub element_before_same : {s : List ℕ} {m : Meaning} {b : ℕ} {bs : List ℕ} → IsLexicalElement s m (b ∷ bs) → (cs : List ℕ) → IsLexicalElement s m (b ∷ cs)
element_before_same ignored_tab cs = ignored_tab
element_before_same ignored_line_feed cs = ignored_line_feed
element_before_same ignored_carriage_return cs = ignored_carriage_return
element_before_same ignored_space cs = ignored_space
element_before_same ignored_comma cs = ignored_comma
element_before_same ignored_byte_order_mark cs = ignored_byte_order_mark
element_before_same (comment_feed line all) cs = comment_feed line all
element_before_same (comment_return_feed line all) cs = comment_return_feed line all
element_before_same (comment_return line all stop) cs = comment_return line all stop
element_before_same (name_token first more ends) cs = name_token first more ends
element_before_same (punctuator_token h) cs = punctuator_token h
element_before_same spread_token cs = spread_token
element_before_same (integer_token h ends) cs = integer_token h ends
element_before_same (float_token h ends) cs = float_token h ends
element_before_same (string_token body valid some) cs = string_token body valid some
element_before_same (block_string_token closes) cs = block_string_token closes

-- if some bytes and then an input can follow a lexical element, those bytes and any other input can
element_on : {s : List ℕ} {m : Meaning} (a b c : List ℕ) → 0 < length a → IsLexicalElement s m (a ++ b) → IsLexicalElement s m (a ++ c)
element_on [] b c some st = absurd (omega (arith, some))
element_on (x ∷ a) b c some st = element_before_same st (a ++ c)

-- any input can follow a punctuator
punctuator_element : {s : List ℕ} {k : Kind} {n : Nesting} {rest : List ℕ} → IsLexicalElement s (TokenOf k n) rest → kind_number k ≡ kind_number Punctuator
    → (more : List ℕ)
    → IsLexicalElement s (TokenOf k n) more
punctuator_element (name_token first continues ends) e more = absurd (omega (arith, e))
punctuator_element (punctuator_token m) e more = punctuator_token m
punctuator_element spread_token e more = spread_token
punctuator_element (integer_token is ends) e more = absurd (omega (arith, e))
punctuator_element (float_token is ends) e more = absurd (omega (arith, e))
punctuator_element (string_token body is some) e more = absurd (omega (arith, e))
punctuator_element (block_string_token closes) e more = absurd (omega (arith, e))

-- ---- tokens of which the last is a punctuator

abbrev pub EndsInMark : List Token → Type 0
EndsInMark [] = ⊥
EndsInMark (t ∷ []) = t.kind ≡ kind_number Punctuator
EndsInMark (t ∷ u ∷ us) = EndsInMark (u ∷ us)

pub ends_after : (ts us : List Token) → EndsInMark us → EndsInMark (ts ++ us)
ends_after [] us h = h
ends_after (t ∷ []) [] h = absurd h
ends_after (t ∷ []) (u ∷ us) h = h
ends_after (t ∷ v ∷ ts) us h = ends_after (v ∷ ts) us h

-- ---- the bytes of those tokens

-- what holds of the input a ++ b, and of a before any other input
pub record TokensKept (w : Where) (text : List ℕ) (is : List Item) (front : List Token) : Type 0 where
  pub a : List ℕ
  pub b : List ℕ
  pub parts : text ≡ a ++ b
  pub some : 0 < length a
  pub within : w.offset + length a ≤ (next_place (drop (length front) is)).offset
  pub again : (c : List ℕ) → (ps : List Piece) × (stop : List ℕ) × IsTokenizedInto (a ++ c) ps stop × (others : List Token)
      × ((split (items_of w ps stop)).tokens ≡ front ++ others)

token_there : (b : Bool) (k : Kind) (bytes : List ℕ) (w : Where) (more : List Item)
    → w.offset ≤ (next_place (token_then b (item_at (LexicalError too_deep) w) (item_at (TokenContent k bytes) w) more)).offset
token_there true k bytes w more = omega arith
token_there false k bytes w more = omega arith

piece_there : (m : Meaning) (bytes : List ℕ) (w : Where) (more : Where → List Item) → ((v : Where) → v.offset ≤ (next_place (more v)).offset)
    → w.offset ≤ (next_place (piece_then m more w bytes)).offset
piece_there (Ignored m) bytes w more f = omega (arith, f (past_ignored m (length bytes) w))
piece_there (TokenOf k t) bytes w more f = token_there (is_too_deep t w) k bytes w (more (past_token t bytes w))

-- the next item is at the start of the input, or later
goes_on : (ps : List Piece) (stop : List ℕ) (w : Where) → w.offset ≤ (next_place (items_of w ps stop)).offset
unfolding items_of
goes_on [] [] w = omega arith
goes_on [] (b ∷ bs) w = omega arith
goes_on (q ∷ qs) stop w = piece_there q.meaning q.bytes w (λ v. items_of v qs stop) (λ v. goes_on qs stop v)

module _ (qs : List Piece) (stop rest : List ℕ) (others : List Token) where
  -- the same for what follows a lexical element
  abbrev KeptLater : Type 0
  KeptLater = (v : Where) (front : List Token) → (split (items_of v qs stop)).tokens ≡ front ++ others → EndsInMark front
      → TokensKept v rest (items_of v qs stop) front

  -- what is kept after a lexical element is also kept with the element, and with its token if it has one
  with_piece : (m : Meaning) (bytes text : List ℕ) (w v : Where) (is js : List Item) (all front : List Token) → text ≡ bytes ++ rest → IsLexicalElement bytes m rest
      → v.offset ≡ w.offset + length bytes → drop (length all) is ≡ drop (length front) js
      → ((ps : List Piece) (end : List ℕ) (us : List Token) → (split (items_of v ps end)).tokens ≡ front ++ us
      → (split (items_of w (record { bytes = bytes; meaning = m } ∷ ps) end)).tokens ≡ all ++ us)
      → TokensKept v rest js front → TokensKept w text is all
  with_piece m bytes text w v is js all front e st moves same on k = record {
    a = bytes ++ k.a;
    b = k.b;
    parts = e ∙ ap (λ (l : List ℕ). bytes ++ l) k.parts ∙ sym (append_assoc bytes k.a k.b);
    some = omega (arith, k.some, length-append bytes k.a);
    within = omega (arith, k.within, moves, ap (λ (l : List Item). (next_place l).offset) same, length-append bytes k.a);
    again = λ c.
        let (ps, end, tokenized, us, tokens) = k.again c in (
          record { bytes = bytes; meaning = m } ∷ ps,
          end,
          (k.a ++ c, append_assoc bytes k.a c, element_on k.a k.b c k.some (subst (IsLexicalElement bytes m) k.parts st), tokenized),
          us,
          on ps end us tokens,
        );
  }

  ignored_kept : (m : Move) (bytes text : List ℕ) (w : Where) (front : List Token) → text ≡ bytes ++ rest → IsLexicalElement bytes (Ignored m) rest
      → TokensKept (past_ignored m (length bytes) w) rest (items_of (past_ignored m (length bytes) w) qs stop) front
      → TokensKept w text (items_of (past_ignored m (length bytes) w) qs stop) front
  unfolding items_of
  ignored_kept m bytes text w front e st =
      with_piece (Ignored m) bytes text w (past_ignored m (length bytes) w) _ _ front front e st refl refl (λ ps end us tokens. tokens)

  module _ (kind : Kind) (t : Nesting) (bytes text : List ℕ) (w : Where) (e : text ≡ bytes ++ rest) (st : IsLexicalElement bytes (TokenOf kind t) rest)
      (fits : is_too_deep t w ≡ false) where
    -- the token is the last one
    last_kept : (f : Token) → token_of w.position kind bytes ≡ f → f.kind ≡ kind_number Punctuator
        → TokensKept w text (item_at (TokenContent kind bytes) w ∷ items_of (past_token t bytes w) qs stop) (f ∷ [])
    unfolding items_of
    last_kept f first is = record {
      a = bytes;
      b = rest;
      parts = e;
      some = (part (TokenOf kind t) bytes rest st).0;
      within = goes_on qs stop (past_token t bytes w);
      again = λ c.
          let (ps, end, tokenized) = tokenization_of c in (
            record { bytes = bytes; meaning = TokenOf kind t } ∷ ps,
            end,
            (c, refl, punctuator_element st (ap (λ (u : Token). u.kind) first ∙ is) c, tokenized),
            (split (items_of (past_token t bytes w) ps end)).tokens,
            rw fits (λ i. first i ∷ (split (items_of (past_token t bytes w) ps end)).tokens),
          );
    }

    -- others follow it
    first_kept : (f : Token) (front : List Token) → token_of w.position kind bytes ≡ f
        → TokensKept (past_token t bytes w) rest (items_of (past_token t bytes w) qs stop) front
        → TokensKept w text (item_at (TokenContent kind bytes) w ∷ items_of (past_token t bytes w) qs stop) (f ∷ front)
    unfolding items_of
    first_kept f front first =
        with_piece (TokenOf kind t) bytes text w (past_token t bytes w) _ _ (f ∷ front) front e st refl refl
        (λ ps end us tokens. rw fits (λ i. first i ∷ tokens i))

  word_kept : (b : Bool) (kind : Kind) (t : Nesting) (bytes text : List ℕ) (w : Where) (front : List Token) → is_too_deep t w ≡ b
      → text ≡ bytes ++ rest → IsLexicalElement bytes (TokenOf kind t) rest
      → (split (token_then b (item_at (LexicalError too_deep) w) (item_at (TokenContent kind bytes) w) (items_of (past_token t bytes w) qs stop))).tokens
      ≡ front ++ others → EndsInMark front → KeptLater → TokensKept w text
      (token_then b (item_at (LexicalError too_deep) w) (item_at (TokenContent kind bytes) w) (items_of (past_token t bytes w) qs stop)) front
  word_kept b kind t bytes text w [] deep e st is ends f = absurd ends
  word_kept true kind t bytes text w (u ∷ us) deep e st is ends f = absurd cc
  word_kept false kind t bytes text w (u ∷ []) deep e st is ends f =
      let first : token_of w.position kind bytes ≡ u = cc in
      last_kept kind t bytes text w e st deep u first ends
  word_kept false kind t bytes text w (u ∷ v ∷ us) deep e st is ends f =
      let first : token_of w.position kind bytes ≡ u = cc in
      first_kept kind t bytes text w e st deep u (v ∷ us) first (f (past_token t bytes w) (v ∷ us) (ap (drop 1) is) ends)

  piece_kept : (m : Meaning) (bytes text : List ℕ) (w : Where) (front : List Token) → text ≡ bytes ++ rest → IsLexicalElement bytes m rest
      → (split (piece_then m (λ v. items_of v qs stop) w bytes)).tokens ≡ front ++ others → EndsInMark front → KeptLater
      → TokensKept w text (piece_then m (λ v. items_of v qs stop) w bytes) front
  piece_kept (Ignored m) bytes text w front e st is ends f = ignored_kept m bytes text w front e st (f (past_ignored m (length bytes) w) front is ends)
  piece_kept (TokenOf k t) bytes text w front e st is ends f = word_kept (is_too_deep t w) k t bytes text w front refl e st is ends f

pub tokens_kept : (ps : List Piece) (text stop : List ℕ) (w : Where) (front others : List Token) → IsTokenizedInto text ps stop
    → (split (items_of w ps stop)).tokens ≡ front ++ others → EndsInMark front → TokensKept w text (items_of w ps stop) front
unfolding items_of
tokens_kept [] text stop w [] others tokenized is ends = absurd ends
tokens_kept [] text [] w (t ∷ front) others tokenized is ends = absurd cc
tokens_kept [] text (b ∷ bs) w (t ∷ front) others tokenized is ends = absurd cc
tokens_kept (q ∷ qs) text stop w front others (rest, e, st, tokenized) is ends =
    piece_kept qs stop rest others q.meaning q.bytes text w front e st is ends (λ v us h k. tokens_kept qs rest stop v us others tokenized h k)

-- ---- the front of an input

pub prefix : (a b taken rest text : List ℕ) → text ≡ a ++ b → text ≡ taken ++ rest → length a ≤ length taken → taken ≡ a ++ drop (length a) taken
prefix a b taken rest text e f le =
    let front : take (length a) taken ≡ a =
    sym (take-append-le (length a) taken rest le) ∙ ap (take (length a)) (sym f ∙ e) ∙ take_at a b (length a) refl in
    sym (take-append-drop (length a) taken) ∙ ap (λ (l : List ℕ). l ++ drop (length a) taken) front
