-- A source, and the same with more bytes after it. If bytes are left after some tokens, both continue at the same byte.
use Rattle.std.specs.List.{prefix_len}
use Rattle.std.specs.Str.{is_utf8, chars}
use Rattle.std.proofs.Common.{◌≡◌, ◌∙◌, ◌+◌, ◌<◌, ℕ, Bool, true, false, ◌==◌, ◌&&◌, List, [], ◌∷◌, ◌++◌, length, drop, get_or, None, inl, inr, IsUtf8, refl}
use Rattle.std.proofs.Common.{sym, ap, subst, arith, append_assoc, length-append, eqb-true}
use Rattle.std.proofs.lemmas.Bool.{cases_Bool, and_parts, false≢true}
use Rattle.std.proofs.lemmas.Str.{is_utf8-from_IsUtf8}
use Rattle.std.proofs.Math.Seq.{drop-append-add}
use Rattle.graphql_core.specs.steps.Front.{FrontElement, AtEnd, Skips, Takes, Stops}
use Rattle.graphql_core.specs.{front, line_end, comment, BeginsNone, is_in_line, items_of, Token, too_deep, Meaning, Ignored, TokenOf, Piece, IsTokenizedInto, IsLexicalElement}
use Rattle.graphql_core.specs.{Where, Item, past_ignored, past_token, is_too_deep, token_then, piece_then, next_place, split, ignored_front, LexicalError}
use Rattle.graphql_core.specs.{item_at, TokenContent, token_of}
use Rattle.graphql_core.specs.declared.tokenizer.token.Kind.{Kind}
use Rattle.graphql_core.specs.declared.tokenizer.piece.Nesting.{Nesting}
use Rattle.graphql_core.proofs.{no_front, tokenization_of, front_sees, Sees, element_at_front, element_before_same}

-- ---- where no ignored token begins, none begins with more after the source

-- a comment is an ignored token
line_ignored : (n : ℕ) (rest : List ℕ) → ignored_front (line_end n rest) ≡ None → ⊥
line_ignored n [] e = cc
line_ignored n (b ∷ bs) e = elim (cases_Bool (b == 13 && get_or bs 0 0 == 10)) [
  | inl t ↦ let f = rw t at e in cc
  | inr t ↦ let f = rw t at e in cc
]

-- a part of a byte order mark is not UTF-8
first_is_none : is_utf8 (239 ∷ []) ≡ false
unfolding is_utf8 chars
first_is_none = refl

second_is_none : is_utf8 (239 ∷ 187 ∷ []) ≡ false
unfolding is_utf8 chars
second_is_none = refl

no_part : (bs more : List ℕ) → ignored_front (front (239 ∷ bs)) ≡ None → IsUtf8 (239 ∷ bs) → get_or (bs ++ more) 0 0 ≡ 187 → get_or (bs ++ more) 1 0 ≡ 191 → ⊥
unfolding front
no_part [] more none utf8 e f = false≢true (sym first_is_none ∙ is_utf8-from_IsUtf8 _ utf8)
no_part (x ∷ []) more none utf8 e f = false≢true (sym second_is_none ∙ ap (λ y. is_utf8 (239 ∷ y ∷ [])) (sym e) ∙ is_utf8-from_IsUtf8 _ utf8)
no_part (x ∷ y ∷ bs) more none utf8 e f = let b = rw (e, f) at none in cc

module _ (b : ℕ) (bs more : List ℕ) (none : ignored_front (front (b ∷ bs)) ≡ None) where
  differs : (k : ℕ) → (ignored_front (front (k ∷ bs)) ≡ None → ⊥) → (b == k) ≡ false
  differs k never = elim (cases_Bool (b == k)) [
    | inl t ↦ absurd (never (subst (λ x. ignored_front (front (x ∷ bs)) ≡ None) (eqb-true b k t) none))
    | inr f ↦ f
  ]

  no_mark : IsUtf8 (b ∷ bs) → (b == 239 && (get_or (bs ++ more) 0 0 == 187 && get_or (bs ++ more) 1 0 == 191)) ≡ false
  no_mark utf8 = elim (cases_Bool (b == 239 && (get_or (bs ++ more) 0 0 == 187 && get_or (bs ++ more) 1 0 == 191))) [
    | inl t ↦
        let (first, others) = and_parts _ _ t in
        let (second, third) = and_parts _ _ others in
        let is = eqb-true b 239 first in
        let here = subst (λ x. ignored_front (front (x ∷ bs)) ≡ None) is none in
        absurd (no_part bs more here (subst (λ x. IsUtf8 (x ∷ bs)) is utf8) (eqb-true _ _ second) (eqb-true _ _ third))
    | inr f ↦ f
  ]

  still_none : IsUtf8 (b ∷ bs) → ignored_front (front (b ∷ (bs ++ more))) ≡ None
  unfolding front comment
  still_none utf8 =
      no_front b (bs ++ more) (differs 9 (λ e. cc)) (differs 10 (λ e. cc)) (differs 13 (λ e. cc))
      (let s = differs 32 (λ e. cc) in let c = differs 44 (λ e. cc) in rw (s, c) refl)
      (differs 35 (λ e. line_ignored (prefix_len is_in_line bs) (drop (prefix_len is_in_line bs) bs) e)) (no_mark utf8)

-- a source that begins with no ignored token
none_begins : (x : FrontElement) (text : List ℕ) → Sees text x → BeginsNone text → ignored_front x ≡ None
none_begins AtEnd text s none = refl
none_begins Stops text s none = refl
none_begins (Skips n m) text s none = absurd (none s.0 s.1 s.2 s.4 s.3)
none_begins (Takes n k t) text s none = refl

-- ---- lexical elements

-- a lexical element before some bytes is also one if more bytes follow them
element_on : {s : List ℕ} {m : Meaning} (rest more : List ℕ) → 0 < length rest → IsLexicalElement s m rest → IsLexicalElement s m (rest ++ more)
element_on [] more some st = absurd (omega (arith, some))
element_on (b ∷ bs) more some st = element_before_same st (bs ++ more)

-- ---- positions of tokens

token_placed : (b : Bool) (k : Kind) (bytes : List ℕ) (w : Where) (more : List Item)
    → (next_place (token_then b (item_at (LexicalError too_deep) w) (item_at (TokenContent k bytes) w) more)).offset ≡ w.offset
token_placed true k bytes w more = refl
token_placed false k bytes w more = refl

piece_placed : (m : Meaning) (bytes rest : List ℕ) (w : Where) (more : Where → List Item) → IsLexicalElement bytes m rest → ignored_front (front (bytes ++ rest)) ≡ None
    → (next_place (piece_then m more w bytes)).offset ≡ w.offset
piece_placed (Ignored m) bytes rest w more st none = let skips = ap ignored_front (sym (element_at_front st)) ∙ none in absurd cc
piece_placed (TokenOf k t) bytes rest w more st none = token_placed (is_too_deep t w) k bytes w (more (past_token t bytes w))

-- if no ignored token comes first, the first token is at the first byte
placed : (w : Where) (ps : List Piece) (text stop : List ℕ) → IsTokenizedInto text ps stop → ignored_front (front text) ≡ None
    → (next_place (items_of w ps stop)).offset ≡ w.offset
unfolding items_of
placed w [] text [] tokenized none = refl
placed w [] text (b ∷ bs) tokenized none = refl
placed w (q ∷ qs) text stop (rest, e, st, tokenized) none =
    piece_placed q.meaning q.bytes rest w (λ v. items_of v qs stop) st (ap (λ t. ignored_front (front t)) (sym e) ∙ none)

-- ---- the same tokens

-- With more after it the source also begins with these tokens, and the next token is at this offset.
abbrev pub GoesOn : Where → List ℕ → List Token → ℕ → Type 0
GoesOn w text front n = (ps : List Piece) × (stop : List ℕ) × IsTokenizedInto text ps stop × (others : List Token)
    × ((split (items_of w ps stop)).tokens ≡ front ++ others) × ((next_place (drop (length front) (items_of w ps stop))).offset ≡ w.offset + n)

-- After these tokens of a source the next token is at this offset. If some byte of the source is left there, the token
-- is also there with more after the source.
pub record Kept (w : Where) (text : List ℕ) (is : List Item) (front : List Token) : Type 0 where
  pub on : ℕ
  pub here : (next_place (drop (length front) is)).offset ≡ w.offset + on
  pub again : on < length text → IsUtf8 (drop on text) → (more : List ℕ) → GoesOn w (text ++ more) front on

some_kept : (w : Where) (text more : List ℕ) → 0 < length text → IsUtf8 text → ignored_front (front text) ≡ None → GoesOn w (text ++ more) [] 0
some_kept w [] more some utf8 none = absurd (omega (arith, some))
some_kept w (b ∷ bs) more some utf8 none =
    let (ps, stop, tokenized) = tokenization_of (b ∷ (bs ++ more)) in
    let at = placed w ps (b ∷ (bs ++ more)) stop tokenized (still_none b bs more none utf8) in
    (ps, stop, tokenized, (split (items_of w ps stop)).tokens, refl, omega (arith, at))

-- after no token, the next token is at the first byte
none_kept : (w : Where) (text : List ℕ) (is : List Item) → (next_place is).offset ≡ w.offset → ignored_front (front text) ≡ None → Kept w text is []
none_kept w text is at none = record {
  on = 0;
  here = omega (arith, at);
  again = λ some utf8 more. some_kept w text more some utf8 none;
}

module _ (qs : List Piece) (stop rest bytes text : List ℕ) (w : Where) (e : text ≡ bytes ++ rest) where
  -- what holds after a lexical element also holds before it
  after_piece : (m : Meaning) (v : Where) (all front : List Token) (is : List Item) → IsLexicalElement bytes m rest → v.offset ≡ w.offset + length bytes
      → (next_place (drop (length all) is)).offset ≡ (next_place (drop (length front) (items_of v qs stop))).offset
      → ((ps : List Piece) (end : List ℕ) (us : List Token) → (split (items_of v ps end)).tokens ≡ front ++ us
      → ((split (items_of w (record { bytes = bytes; meaning = m } ∷ ps) end)).tokens ≡ all ++ us)
      × ((next_place (drop (length all) (items_of w (record { bytes = bytes; meaning = m } ∷ ps) end))).offset
      ≡ (next_place (drop (length front) (items_of v ps end))).offset))
      → Kept v rest (items_of v qs stop) front → Kept w text is all
  after_piece m v all front is st moves same on k = record {
    on = length bytes + k.on;
    here = omega (arith, same, moves, k.here);
    again = λ some utf8 more.
        let left : k.on < length rest = omega (arith, some, ap length e, length-append bytes rest) in
        let there = ap (drop (length bytes + k.on)) e ∙ drop-append-add bytes rest k.on in
        let (ps, end, tokenized, us, tokens, at) = k.again left (subst IsUtf8 there utf8) more in
        let (tokens_on, same_on) = on ps end us tokens in (
          record { bytes = bytes; meaning = m } ∷ ps,
          end,
          (rest ++ more, ap (λ t. t ++ more) e ∙ append_assoc bytes rest more, element_on rest more (omega (arith, left)) st, tokenized),
          us,
          tokens_on,
          omega (arith, same_on, at, moves),
        );
  }

  module _ (others : List Token) where
    abbrev KeptLater : Type 0
    KeptLater = (v : Where) (front : List Token) → (split (items_of v qs stop)).tokens ≡ front ++ others → Kept v rest (items_of v qs stop) front

    word_kept : (b : Bool) (k : Kind) (t : Nesting) (front : List Token) → is_too_deep t w ≡ b → IsLexicalElement bytes (TokenOf k t) rest
        → (split (token_then b (item_at (LexicalError too_deep) w) (item_at (TokenContent k bytes) w) (items_of (past_token t bytes w) qs stop))).tokens
        ≡ front ++ others → KeptLater
        → Kept w text (token_then b (item_at (LexicalError too_deep) w) (item_at (TokenContent k bytes) w) (items_of (past_token t bytes w) qs stop)) front
    unfolding items_of
    word_kept b k t [] deep st is f =
        none_kept w text _ (token_placed b k bytes w _) (ap (λ x. ignored_front (front x)) e ∙ ap ignored_front (element_at_front st))
    word_kept true k t (u ∷ us) deep st is f = absurd cc
    word_kept false k t (u ∷ us) deep st is f =
        let first : token_of w.position k bytes ≡ u = cc in
        after_piece (TokenOf k t) (past_token t bytes w) (u ∷ us) us _ st refl refl
        (λ ps end vs tokens. rw deep ((λ i. first i ∷ tokens i), refl))
        (f (past_token t bytes w) us (ap (drop 1) is))

    piece_kept : (m : Meaning) (front : List Token) → IsLexicalElement bytes m rest → (split (piece_then m (λ v. items_of v qs stop) w bytes)).tokens ≡ front ++ others
        → KeptLater → Kept w text (piece_then m (λ v. items_of v qs stop) w bytes) front
    unfolding items_of
    piece_kept (Ignored m) front st is f =
        after_piece (Ignored m) (past_ignored m (length bytes) w) front front _ st refl refl (λ ps end us tokens. (tokens, refl))
        (f (past_ignored m (length bytes) w) front is)
    piece_kept (TokenOf k t) front st is f = word_kept (is_too_deep t w) k t front refl st is f

pub kept : (ps : List Piece) (text stop : List ℕ) (w : Where) (front others : List Token) → IsTokenizedInto text ps stop
    → (split (items_of w ps stop)).tokens ≡ front ++ others → Kept w text (items_of w ps stop) front
unfolding items_of
kept [] text [] w [] others (e, none) is = none_kept w text _ refl (ap (λ x. ignored_front (front x)) e ∙ none_begins (front []) [] (front_sees []) none)
kept [] text (b ∷ bs) w [] others (e, none) is =
    none_kept w text _ refl (ap (λ x. ignored_front (front x)) e ∙ none_begins (front (b ∷ bs)) (b ∷ bs) (front_sees (b ∷ bs)) none)
kept [] text [] w (t ∷ ts) others tokenized is = absurd cc
kept [] text (b ∷ bs) w (t ∷ ts) others tokenized is = absurd cc
kept (q ∷ qs) text stop w ts others (rest, e, st, tokenized) is =
    piece_kept qs stop rest q.bytes text w e others q.meaning ts st is (λ v us h. kept qs rest stop v us others tokenized h)
