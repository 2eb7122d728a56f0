-- Parts that can follow each other: their output is tokenized into exactly their tokens.
use Rattle.std.proofs.Common.{◌≡◌, ℕ, ◌+◌, ◌<◌, Bool, true, false, ◌||◌, ◌==◌, List, [], ◌∷◌, ◌++◌, length, refl, sym, ap, subst, inl, inr, arith, append_assoc}
use Rattle.std.proofs.lemmas.Bool.{cases_eq, and_parts}
use Rattle.std.proofs.lemmas.Bool.Decides.{nat_tests}
use Rattle.graphql_core.specs.{is_delimiter, nesting_of, EndsRun, ignored_line_feed, ignored_comma, punctuator_token, ignored_space}
use Rattle.graphql_core.specs.{is_punctuator_byte, Ignored, TokenOf, IsLexicalElement, spread_token, Piece, IsTokenizedInto, Token, kind_number, Where, Item, HasItems}
use Rattle.graphql_core.specs.{start, past_ignored, past_token, is_too_deep, items_of, split, IsEnd, Part, token, ignored, text_of}
use Rattle.graphql_core.specs.declared.tokenizer.piece.Move.{Move}
use Rattle.graphql_core.specs.declared.tokenizer.piece.Move.TheVariants.{Down, Over}
use Rattle.std.specs.List.{list_all}
use Rattle.graphql_core.specs.declared.tokenizer.token.Kind.{Kind}
use Rattle.graphql_core.specs.declared.tokenizer.token.Kind.TheVariants.{Punctuator}
use Rattle.graphql_core.specs.declared.tokenizer.piece.Nesting.{Nesting}
use Rattle.graphql_core.specs.declared.tokenizer.piece.Nesting.TheVariants.{Unchanged, Opens, Closes}
use Rattle.graphql_core.proofs.lexical.FrontIsPiece.{begins_none_at_end}

-- ---- parts that can follow each other

-- a token that is no bracket, if white space, a comma, a punctuator of one character or the end follows it
abbrev pub IsWord : Kind → List ℕ → Type 0
IsWord k s = (rest : List ℕ) → EndsRun rest → IsLexicalElement s (TokenOf k Unchanged) rest

-- ignored text of layouts: spaces, line feeds and commas
abbrev pub is_blank : ℕ → Bool
is_blank b = b == 32 || (b == 10 || b == 44)

-- a punctuator takes depth d to depth e; at most 50 brackets are open
abbrev pub Deepens : Nesting → ℕ → ℕ → Type 0
Deepens Unchanged d e = d ≡ e
Deepens Opens d e = (d < 50) × (e ≡ d + 1)
Deepens Closes d e = d ≡ e + 1

-- Laid p d ps q e: these parts can follow a word (p) or not, at depth d. After them it is q, at depth e.
pub data CanFollow : Bool → ℕ → List Part → Bool → ℕ → Type 0 where
  done : {p : Bool} {d : ℕ} → CanFollow p d [] p d
  -- what can follow a word can follow anything
  as_word : {p : Bool} {d e : ℕ} {ps : List Part} → CanFollow p d ps false e → CanFollow p d ps true e
  -- ignored text that may be empty, and ignored text that is not
  margin : {p q : Bool} {d e : ℕ} {text : List ℕ} {ps : List Part} → list_all is_blank text ≡ true → CanFollow p d ps q e → CanFollow p d (ignored text ∷ ps) q e
  gap : {p q : Bool} {d e b : ℕ} {text : List ℕ} {ps : List Part} → list_all is_blank (b ∷ text) ≡ true → CanFollow false d ps q e
      → CanFollow p d (ignored (b ∷ text) ∷ ps) q e
  word : {q : Bool} {d e : ℕ} {k : Kind} {s : List ℕ} {ps : List Part} → IsWord k s → CanFollow true d ps q e → CanFollow false d (token k s ∷ ps) q e
  punctuator_can_follow : {p q : Bool} {d e f b : ℕ} {ps : List Part} → is_punctuator_byte b ≡ true → Deepens (nesting_of b) d e → CanFollow false e ps q f
      → CanFollow p d (token Punctuator (b ∷ []) ∷ ps) q f
  dots : {q : Bool} {d e : ℕ} {ps : List Part} → CanFollow false d ps q e → CanFollow false d (token Punctuator (46 ∷ 46 ∷ 46 ∷ []) ∷ ps) q e

-- what can follow a word can be anywhere
pub anywhere : {d e : ℕ} {q : Bool} {ps : List Part} → CanFollow true d ps q e → CanFollow false d ps q e
anywhere done = as_word done
anywhere (as_word l) = as_word (anywhere l)
anywhere (margin h l) = margin h (anywhere l)
anywhere (gap h l) = gap h l
anywhere (punctuator_can_follow m n l) = punctuator_can_follow m n l

pub follows_after : {p q r : Bool} {d e f : ℕ} {ps qs : List Part} → CanFollow p d ps q e → CanFollow q e qs r f → CanFollow p d (ps ++ qs) r f
follows_after done k = k
follows_after (as_word l) k = follows_after l (anywhere k)
follows_after (margin h l) k = margin h (follows_after l k)
follows_after (gap h l) k = gap h (follows_after l k)
follows_after (word w l) k = word w (follows_after l k)
follows_after (punctuator_can_follow m n l) k = punctuator_can_follow m n (follows_after l k)
follows_after (dots l) k = dots (follows_after l k)

-- ---- their tokens

-- these are the tokens of the parts, at any position
abbrev pub Spells : List Part → List Token → Type 0
Spells [] ts = ts ≡ []
Spells (ignored text ∷ ps) ts = Spells ps ts
Spells (token k s ∷ ps) [] = ⊥
Spells (token k s ∷ ps) (t ∷ ts) = (t.kind ≡ kind_number k) × (t.spelling ≡ s) × Spells ps ts

abbrev pub SpellsBoth : List Part → List Part → List Token → Type 0
SpellsBoth ps qs ts = (us : List Token) × (vs : List Token) × (ts ≡ us ++ vs) × Spells ps us × Spells qs vs

pub spells_split : (ps qs : List Part) (ts : List Token) → Spells (ps ++ qs) ts → SpellsBoth ps qs ts
spells_split [] qs ts h = ([], ts, refl, refl, h)
spells_split (ignored text ∷ ps) qs ts h = spells_split ps qs ts h
spells_split (token k s ∷ ps) qs [] h = absurd h
spells_split (token k s ∷ ps) qs (t ∷ ts) (kind, spelling, h) =
    let r = spells_split ps qs ts h in
    (t ∷ r.0, r.1, ap (λ (l : List Token). t ∷ l) r.2, (kind, spelling, r.3), r.4)

-- ---- their items

-- from this place on, the output of the parts has exactly their tokens, and then the end
abbrev pub IsTokenized : Where → List Part → Type 0
IsTokenized w ps =
    (pieces : List Piece) × IsTokenizedInto (text_of ps) pieces [] × Spells ps (split (items_of w pieces [])).tokens × IsEnd (split (items_of w pieces [])).last

-- d brackets are open there
abbrev pub IsDeep : ℕ → Where → Type 0
IsDeep d w = w.openers ≡ w.closers + d

tokenized_one : (bytes : List ℕ) (m : Move) (text : List ℕ) (ps : List Part) (w : Where) → IsLexicalElement bytes (Ignored m) (text ++ text_of ps)
    → IsTokenized (past_ignored m (length bytes) w) (ignored text ∷ ps) → IsTokenized w (ignored (bytes ++ text) ∷ ps)
unfolding items_of
tokenized_one bytes m text ps w st (pieces, tokenized, spells, end) =
    (record { bytes = bytes; meaning = Ignored m } ∷ pieces, (text ++ text_of ps, append_assoc bytes text (text_of ps), st, tokenized), spells, end)

-- ignored text
tokenized_blank : (text : List ℕ) → list_all is_blank text ≡ true → (ps : List Part) (d : ℕ) → ((w : Where) → IsDeep d w → IsTokenized w ps) → (w : Where) → IsDeep d w
    → IsTokenized w (ignored text ∷ ps)
tokenized_blank [] h ps d k w deep = k w deep
tokenized_blank (b ∷ text) h ps d k w deep =
    let (one, others) = and_parts (is_blank b) (list_all is_blank text) h in
    let more = λ (v : Where) (deep : IsDeep d v). tokenized_blank text others ps d k v deep in
    elim (cases_eq b 32) [
      | inl e ↦ subst (λ (c : ℕ). IsTokenized w (ignored (c ∷ text) ∷ ps)) (sym e) (tokenized_one (32 ∷ []) (Over 1) text ps w ignored_space (more _ deep))
      | inr n ↦ elim (cases_eq b 10) [
        | inl e ↦ subst (λ (c : ℕ). IsTokenized w (ignored (c ∷ text) ∷ ps)) (sym e) (tokenized_one (10 ∷ []) Down text ps w ignored_line_feed (more _ deep))
        | inr m ↦ let e : b ≡ 44 =
            grind (arith, nat_tests) in
            subst (λ (c : ℕ). IsTokenized w (ignored (c ∷ text) ∷ ps)) (sym e) (tokenized_one (44 ∷ []) (Over 1) text ps w ignored_comma (more _ deep))
      ]
    ]

-- a token that is not too deep
tokenized_token : (k : Kind) (t : Nesting) (s : List ℕ) (ps : List Part) (w : Where) → is_too_deep t w ≡ false → IsLexicalElement s (TokenOf k t) (text_of ps)
    → IsTokenized (past_token t s w) ps → IsTokenized w (token k s ∷ ps)
unfolding items_of
tokenized_token k t s ps w fits st (pieces, tokenized, spells, end) =
    (record { bytes = s; meaning = TokenOf k t } ∷ pieces, (text_of ps, refl, st, tokenized), rw fits (refl, refl, spells), rw fits end)

tokenized_punctuator : (b : ℕ) (t : Nesting) (ps : List Part) (d e : ℕ) (w : Where) → Deepens t d e → IsDeep d w → IsLexicalElement (b ∷ []) (TokenOf Punctuator t) (text_of ps)
    → ((v : Where) → IsDeep e v → IsTokenized v ps) → IsTokenized w (token Punctuator (b ∷ []) ∷ ps)
tokenized_punctuator b Unchanged ps d e w n deep st k = tokenized_token Punctuator Unchanged (b ∷ []) ps w refl st (k _ (omega arith))
tokenized_punctuator b Opens ps d e w n deep st k = tokenized_token Punctuator Opens (b ∷ []) ps w (grind (arith, nat_tests)) st (k _ (omega arith))
tokenized_punctuator b Closes ps d e w n deep st k = tokenized_token Punctuator Closes (b ∷ []) ps w refl st (k _ (omega arith))

blank_delimits : (b : ℕ) → is_blank b ≡ true → is_delimiter b ≡ true
blank_delimits b h = grind (arith, nat_tests)

punctuator_delimits : (b : ℕ) → is_punctuator_byte b ≡ true → is_delimiter b ≡ true
punctuator_delimits b h = grind (arith, nat_tests)

-- a word is followed by a delimiter, or by the end
pub ends_run : {d e : ℕ} {q : Bool} {ps : List Part} → CanFollow true d ps q e → EndsRun (text_of ps)
ends_run done = tt
ends_run (as_word l) = ends_run l
ends_run (margin {text = []} h l) = ends_run l
ends_run (margin {text = b ∷ text} h l) = blank_delimits b (and_parts (is_blank b) (list_all is_blank text) h).0
ends_run (gap {b = b} {text = text} h l) = blank_delimits b (and_parts (is_blank b) (list_all is_blank text) h).0
ends_run (punctuator_can_follow {b = b} m n l) = punctuator_delimits b m

pub tokenized : {p q : Bool} {d e : ℕ} {ps : List Part} → CanFollow p d ps q e → (w : Where) → IsDeep d w → IsTokenized w ps
unfolding items_of
tokenized done w deep = ([], (refl, begins_none_at_end), refl, tt)
tokenized (as_word l) w deep = tokenized l w deep
tokenized (margin {d = d} {text = text} {ps = ps} h l) w deep = tokenized_blank text h ps d (λ v i. tokenized l v i) w deep
tokenized (gap {d = d} {b = b} {text = text} {ps = ps} h l) w deep = tokenized_blank (b ∷ text) h ps d (λ v i. tokenized l v i) w deep
tokenized (word {k = k} {s = s} {ps = ps} is l) w deep = tokenized_token k Unchanged s ps w refl (is (text_of ps) (ends_run l)) (tokenized l _ deep)
tokenized (punctuator_can_follow {d = d} {e = e} {b = b} {ps = ps} m n l) w deep = tokenized_punctuator b (nesting_of b) ps d e w n deep (punctuator_token m) (λ v i. tokenized l v i)
tokenized (dots {ps = ps} l) w deep = tokenized_token Punctuator Unchanged (46 ∷ 46 ∷ 46 ∷ []) ps w refl spread_token (tokenized l _ deep)

-- The output of parts that can follow each other has their tokens as its items, and then the end.
abbrev pub HasTokens : List ℕ → List Part → Type 0
HasTokens text ps = (items : List Item) × HasItems text items × Spells ps (split items).tokens × IsEnd (split items).last

pub has_tokens : {q : Bool} {e : ℕ} (ps : List Part) → CanFollow false 0 ps q e → HasTokens (text_of ps) ps
has_tokens ps l = let c = tokenized l start refl in (items_of start c.0 [], (c.0, [], c.1, refl), c.2, c.3)
