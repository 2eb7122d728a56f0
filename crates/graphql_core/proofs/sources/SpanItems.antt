-- Items as the spans of their tokens.
use Rattle.std.proofs.Common.{◌≡◌, ℕ, zero, suc, ◌+◌, ◌-◌, ◌<◌, ◌≤◌, get_or, List, [], ◌∷◌, ◌++◌, length, take, drop, map, Option, Some, None, Result, Ok}
use Rattle.std.proofs.Common.{◌*◌, All, refl, sym, ap, ap₂, ◌∙◌, subst, arith, append_assoc, length-append, length-drop}
use Rattle.std.proofs.lemmas.List.{take_at, drop_at, drop_all, map-append, length-map}
use Rattle.std.proofs.lemmas.List.Elements.{All-head, All-same, All-drop, All-get_or, All-map, All-weaker}
use Rattle.std.proofs.Math.Seq.{drop-cons}
use Rattle.std.proofs.Math.Numerals.{suc-eq-add-one}
use Rattle.graphql_core.specs.declared.tokenizer.token.Token.{Token as LexedToken}
use Rattle.graphql_core.specs.declared.tokenizer.token.Bad.{Bad}
use Rattle.std.specs.Str.{IsCharBoundary, IsUtf8}
use Rattle.graphql_core.specs.declared.position.Pos.{Pos}
use Rattle.graphql_core.specs.declared.tokenizer.token.Kind.{Kind}
use Rattle.graphql_core.specs.{Where, Item, item_at, TokenContent, EndOfInput, LexicalError, bad_text, HasItems, NextItem, next_place, Token, kind_number}
use Rattle.graphql_core.specs.{Items, Last, IsLexeme, split, only_last, then_items, token_of, after, IsNextFault, max_length, ParseFailure, first_byte, Marks}
use Rattle.graphql_core.specs.{span_token, then_left, span_items, last_at, IsLeft, IsLast, TokenOf, peek}
use Rattle.graphql_core.specs.declared.helpers.span.Span.{Span}
use Rattle.graphql_core.proofs.sources.TokenPlaces.{IsToken, AppearsIn, part, tokens_appear}

-- a token has some bytes
some_bytes : (t : Token) → IsLexeme t → 0 < length t.spelling
some_bytes t (k, s, rest, kind, is_element) = (part (TokenOf k s) t.spelling rest is_element).0

-- the items that are left are tokens in the input, and a last item
left_appear : {most : ℕ} (text : List ℕ) (items : List Item) → IsLeft most text items → All (AppearsIn text) items
left_appear text items left =
    subst (All (AppearsIn text)) (drop_at left.past items (length left.past) refl)
    (All-drop (AppearsIn text) (length left.past) (left.past ++ items) (tokens_appear text (left.past ++ items) left.utf8 left.all))

-- the next item is a token in the input, and those after it are left
pub next_left : {most : ℕ} (text : List ℕ) (old new : List Item) (t : LexedToken) → NextItem old (Ok (Some t)) new → IsLeft most text old
    → (old ≡ item_at (TokenContent t.kind t.value.now) (next_place old) ∷ new) × IsToken text (next_place old) t.kind t.value.now × IsLeft most text new
next_left {most} text old new t (w, e) left =
    let i : Item = item_at (TokenContent t.kind t.value.now) w in
    let all = All-same (AppearsIn text) (i ∷ new) old (sym e) (left_appear text old left) in
    let on : IsLeft most text new = record {
      past = left.past ++ i ∷ [];
      all = subst (HasItems text) (ap (λ (l : List Item). left.past ++ l) e ∙ sym (append_assoc left.past (i ∷ []) new)) left.all;
      utf8 = left.utf8;
      small = left.small;
      narrow = left.narrow;
    } in
    let here : next_place old ≡ w = ap next_place e in
    rw here (e, All-head (AppearsIn text) i new all, on)

-- a token that a call returned from the items that were there is the next one
pub next_of : (Next : List Item → Result (Option LexedToken) Bad → List Item → Type 0) (old was new : List Item)
    (r : Result (Option LexedToken) Bad) (t : LexedToken) → was ≡ old → Next was r new → r ≡ Ok (Some t) → Next old (Ok (Some t)) new
next_of Next old was new r t same next is =
    subst (λ (l : List Item). Next l (Ok (Some t)) new) same (subst (λ (x : Result (Option LexedToken) Bad). Next was x new) is next)

-- if no token is left, going past one changes nothing
unchanged : (i : Items) → i.tokens ≡ [] → i ≡ after i
unchanged i none = let same = none ∙ sym (ap (drop 1) none) in λ j. record { tokens = same j; last = i.last; spent = i.spent }

-- one item was taken, and one span was appended
pub taken : {X : Type 0} (old new : List Item) (t : LexedToken) (spans more : List X) (s : X) (n : ℕ) → NextItem old (Ok (Some t)) new → more ≡ spans ++ s ∷ []
    → length spans + length old ≡ n → length more + length new ≡ n
taken old new t spans more s n (w, e) pushed count = omega (arith, ap length e, ap length pushed, length-append spans (s ∷ []), count)

-- the end of the input is next
end_next : (items : List Item) (w : Where) (p : Pos) → items ≡ item_at EndOfInput w ∷ [] → p ≡ (next_place items).position
    → split items ≡ only_last (last_at p None)
end_next items w p is at = rw (at, is) refl

-- this lexical error is next
bad_next : (items : List Item) (w : Where) (p : Pos) (bad : Bad) → items ≡ item_at (LexicalError (bad_text bad)) w ∷ []
    → p ≡ (next_place items).position → split items ≡ only_last (last_at p (Some bad))
bad_next items w p bad is at = rw (at, is) refl

-- the last item is next
pub last_next : (items : List Item) (p : Pos) (bad : Option Bad) → IsLast items bad → p ≡ (next_place items).position → split items ≡ only_last (last_at p bad)
last_next items p None (w, is) at = end_next items w p is at
last_next items p (Some bad) (w, is) at = bad_next items w p bad is at

module _ {W : Type 0} (number : W → ℕ) (text : List ℕ) where
  -- a span of a token in the input
  module _ (s : Span W) (w : Where) (k : Kind) (bytes : List ℕ) (t : IsToken text w k bytes) (start : number s.start ≡ w.offset)
      (end : number s.end ≡ w.offset + length bytes) (line : number s.line ≡ w.position.line) (column : number s.column ≡ w.position.column)
      (kind : s.kind ≡ k) (front : s.front ≡ first_byte bytes) where
    long : number s.end - number s.start ≡ length bytes
    long = omega (arith, start, end)

    follows : drop (number s.start) text ≡ bytes ++ t.rest
    follows = ap (λ (n : ℕ). drop n text) start ∙ t.is

    spelled : take (number s.end - number s.start) (drop (number s.start) text) ≡ bytes
    spelled = (λ i. take (long i) (follows i)) ∙ take_at bytes t.rest (length bytes) refl

    pub is_token : span_token number text s ≡ token_of w.position k bytes
    is_token = λ i. record { kind = kind_number (kind i); spelling = spelled i; place = record { line = line i; column = column i } }

    pub marks : Marks number text s
    marks = record {
      ordered = omega (arith, start, end);
      starts = subst (IsCharBoundary text) (sym start) t.starts;
      ends = rw (follows, long) t.ends;
      lexeme = subst IsLexeme (sym is_token) t.lexeme;
      front = front ∙ ap first_byte (sym spelled);
    }

  -- one token on
  pub one_tokenized : (spans : List (Span W)) (s : Span W) (old new : List Item) (k : Kind) (bytes : List ℕ) (w : Where) (all : Items)
      → all ≡ then_left number text spans (split old) → old ≡ item_at (TokenContent k bytes) w ∷ new → span_token number text s ≡ token_of w.position k bytes
      → all ≡ then_left number text (spans ++ s ∷ []) (split new)
  one_tokenized spans s old new k bytes w all is next token =
      let f = span_token number text in
      is ∙ ap (λ (l : List Item). then_left number text spans (split l)) next
      ∙ ap (λ (x : Token). then_left number text spans (then_items x (split new))) (sym token)
      ∙ ap (λ (ts : List Token). let i : Items = record { tokens = ts; last = (split new).last; spent = (split new).spent } in i)
      (sym (append_assoc (map f spans) (f s ∷ []) (split new).tokens) ∙ ap (λ (ts : List Token). ts ++ (split new).tokens) (sym (map-append f spans (s ∷ []))))

  -- all tokens are cut, and the last item is next
  pub all_tokenized : (spans : List (Span W)) (left : List Item) (last : Last) (all : Items) → all ≡ then_left number text spans (split left)
      → split left ≡ only_last last → all ≡ span_items number text spans last
  all_tokenized spans left last all is next = is ∙ ap (λ (i : Items). then_left number text spans i) next

  -- ---- the items that are left

  -- all items of an input are left of it
  pub all_left : {most : ℕ} (items : List Item) → HasItems text items → IsUtf8 text → length text ≤ max_length → 8 * length text < most → IsLeft most text items
  all_left items has utf8 small narrow = record { past = []; all = has; utf8 = utf8; small = small; narrow = narrow }

  pub marked : (spans : List (Span W)) (n : ℕ) (s : Span W) → n < length spans → s ≡ get_or spans n s → All (Marks number text) spans → Marks number text s
  marked spans n s some is all = subst (Marks number text) (sym is) (All-get_or (Marks number text) spans n s some all)

  pub next_span : (spans : List (Span W)) (n : ℕ) (s : Span W) → n < length spans → s ≡ get_or spans n s → drop n spans ≡ s ∷ drop (n + 1) spans
  next_span spans n s some is =
      drop-cons spans n s some ∙ ap₂ (λ (x : Span W) (l : List (Span W)). x ∷ l) (sym is) (ap (λ (k : ℕ). drop k spans) (suc-eq-add-one n))

  pub lexemes_left : (spans : List (Span W)) (taken : ℕ) → All (Marks number text) spans → All IsLexeme (map (span_token number text) (drop taken spans))
  lexemes_left spans taken all =
      let left = All-drop (Marks number text) taken spans all in
      All-map IsLexeme (span_token number text) (drop taken spans)
      (All-weaker (Marks number text) (λ s. IsLexeme (span_token number text s)) (λ s m. m.lexeme) (drop taken spans) left)

  -- one more token is taken
  on : (spans : List (Span W)) (taken : ℕ) (last : Last) → taken < length spans
      → span_items number text (drop (suc taken) spans) last ≡ after (span_items number text (drop taken spans) last)
  on [] taken last some = absurd (omega (arith, some))
  on (s ∷ spans) zero last some = refl
  on (s ∷ spans) (suc taken) last some = on spans taken last (omega (arith, some))

  pub one_taken : (spans : List (Span W)) (taken : ℕ) (last : Last) → taken < length spans
      → span_items number text (drop (taken + 1) spans) last ≡ after (span_items number text (drop taken spans) last)
  one_taken spans taken last some =
      ap (λ n. span_items number text (drop n spans) last) (sym (suc-eq-add-one taken)) ∙ on spans taken last some

  seen : (left : List (Span W)) (last : Last) → peek (map (span_token number text) left) ≡ peek (span_items number text left last).tokens
  seen [] last = refl
  seen (s ∷ left) last = refl

  -- no token comes after the last of the spans
  pub next_seen : (spans : List (Span W)) (taken : ℕ) (last : Last)
      → peek (map (span_token number text) (drop taken spans)) ≡ peek (span_items number text (drop taken spans) last).tokens
  next_seen spans taken last = seen (drop taken spans) last

  -- if no token is left, all spans are taken
  pub all_taken : (spans : List (Span W)) (taken len : ℕ) (more : List Token) → len ≡ length spans → taken ≤ len
      → map (span_token number text) (drop taken spans) ++ more ≡ [] → taken ≡ len
  all_taken spans taken len more is within none =
      let left = map (span_token number text) (drop taken spans) in
      let long = ap length none in
      omega (arith, is, within, long, length-append left more, length-map (drop taken spans) (span_token number text), length-drop taken spans)

  -- after the last token nothing is left but the last item
  past_last : (spans : List (Span W)) (taken : ℕ) (last : Last) → length spans ≤ taken + 1
      → only_last last ≡ after (span_items number text (drop taken spans) last)
  past_last [] zero last few = refl
  past_last [] (suc taken) last few = refl
  past_last (s ∷ []) zero last few = refl
  past_last (s ∷ t ∷ spans) zero last few = absurd (omega (arith, few))
  past_last (s ∷ spans) (suc taken) last few = past_last spans taken last (omega (arith, few))

  pub last_taken : (spans : List (Span W)) (taken len : ℕ) (last : Last) → len ≡ length spans → len ≤ taken + 1
      → span_items number text (drop len spans) last ≡ after (span_items number text (drop taken spans) last)
  last_taken spans taken len last is few =
      ap (λ (l : List (Span W)). span_items number text l last) (drop_all len spans (omega (arith, is))) ∙ past_last spans taken last (omega (arith, is, few))

  -- the error of the next token
  pub fault_here : (s : Span W) (spans more : List (Span W)) (last : Last) (p : Pos) (value : List ℕ) (f : ParseFailure)
      → spans ≡ s ∷ more → p.line ≡ number s.line → p.column ≡ number s.column → value ≡ (span_token number text s).spelling
      → ((following : Items) → IsNextFault (then_items (token_of p (s.kind) value) following) f) → IsNextFault (span_items number text spans last) f
  fault_here s spans more last p value f next line column spelled h =
      let following = span_items number text more last in
      let same : token_of p (s.kind) value ≡ span_token number text s =
      λ i. record { kind = kind_number (s.kind); spelling = spelled i; place = record { line = line i; column = column i } } in
      subst (λ (l : List (Span W)). IsNextFault (span_items number text l last) f) (sym next)
      (subst (λ (t : Token). IsNextFault (then_items t following) f) same (h following))
