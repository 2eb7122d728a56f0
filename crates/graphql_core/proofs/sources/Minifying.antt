-- Spaced tokens are tokenized into exactly these tokens.
use Rattle.std.proofs.Common.{◌≡◌, ℕ, Bool, true, false, not, ◌&&◌, ◌||◌, List, [], ◌∷◌, ◌++◌, length, map, refl, sym, ap, ◌∙◌, subst, arith}
use Rattle.std.proofs.lemmas.Bool.Decides.{nat_tests}
use Rattle.graphql_core.specs.{name_token, punctuator_token, ignored_space, is_punctuator_byte, is_delimiter, Meaning, Ignored, TokenOf, IsLexicalElement, spread_token}
use Rattle.graphql_core.specs.{integer_token, float_token, string_token, block_string_token, Piece, IsTokenizedInto, LexicalError, openers_after, closers_after}
use Rattle.graphql_core.specs.{Where, Item, item_at, TokenContent, HasItems, start, past_ignored, past_token, is_too_deep, token_then, piece_then, items_of}
use Rattle.graphql_core.specs.{Token, Place, nowhere, kind_number, too_deep, split, token_of, IsEnd, is_past, AreLexemes, is_punctuator, is_number}
use Rattle.graphql_core.specs.{is_spaced, space_if, spaced_after, spaced, unplaced, IsMinified, HasTokens}
use Rattle.graphql_core.specs.steps.Following.{MayFollow}
use Rattle.graphql_core.proofs.lexical.{items_unique}
use Rattle.graphql_core.specs.declared.tokenizer.token.Kind.{Kind}
use Rattle.graphql_core.specs.declared.tokenizer.token.Kind.TheVariants.{Punctuator, Name, IntValue, FloatValue, StringValue, BlockString}
use Rattle.graphql_core.specs.declared.tokenizer.piece.Move.TheVariants.{Over}
use Rattle.graphql_core.specs.declared.tokenizer.piece.Nesting.{Nesting}
use Rattle.graphql_core.specs.declared.tokenizer.piece.Nesting.TheVariants.{Unchanged, Opens, Closes}
use Rattle.graphql_core.proofs.lexical.FrontIsPiece.{begins_none_at_end}

-- ---- what can follow a token

-- if a token is found before one input, it is found before any other input that can follow it
pub token_before : {s : List ℕ} {k : Kind} {n : Nesting} {rest : List ℕ} → IsLexicalElement s (TokenOf k n) rest → (more : List ℕ) → MayFollow k more
    → IsLexicalElement s (TokenOf k n) more
token_before (name_token first continues ends) more f = name_token first continues f
token_before (punctuator_token m) more f = punctuator_token m
token_before spread_token more f = spread_token
token_before (integer_token is ends) more f = integer_token is f
token_before (float_token is ends) more f = float_token is f
token_before (string_token body is some) more f = string_token body is (λ e. f)
token_before (block_string_token closes) more f = block_string_token closes

pub end_follows : (k : Kind) → MayFollow k []
end_follows Punctuator = tt
end_follows Name = refl
end_follows IntValue = tt
end_follows FloatValue = tt
end_follows StringValue = λ e. omega arith
end_follows BlockString = tt

-- a byte that ends the run of a number follows any token
pub delimiter_follows : (k : Kind) (b : ℕ) (more : List ℕ) → is_delimiter b ≡ true → MayFollow k (b ∷ more)
delimiter_follows Punctuator b more h = tt
delimiter_follows Name b more h = grind (arith, nat_tests)
delimiter_follows IntValue b more h = h
delimiter_follows FloatValue b more h = h
delimiter_follows StringValue b more h = λ e. grind (arith, nat_tests)
delimiter_follows BlockString b more h = tt

space_follows : (k : Kind) (more : List ℕ) → MayFollow k (32 ∷ more)
space_follows k more = delimiter_follows k 32 more refl

punctuator_follows : (k : Kind) (b : ℕ) (more : List ℕ) → is_punctuator_byte b ≡ true → MayFollow k (b ∷ more)
punctuator_follows k b more h = delimiter_follows k b more (grind (arith, nat_tests))

-- if an input can follow a token, it can also follow the token and a space
spaced_follows : (k : Kind) (b : Bool) (text : List ℕ) → MayFollow k text → MayFollow k (space_if b ++ text)
spaced_follows k true text f = space_follows k text
spaced_follows k false text f = f

-- the start of a word after a token
word_follows : (k : Kind) (text : List ℕ)
    → MayFollow k (space_if ((not (is_punctuator (kind_number k)) && true) || (is_number (kind_number k) && false)) ++ text)
word_follows Punctuator text = tt
word_follows Name text = space_follows Name text
word_follows IntValue text = space_follows IntValue text
word_follows FloatValue text = space_follows FloatValue text
word_follows StringValue text = space_follows StringValue text
word_follows BlockString text = tt

-- the start of `...` after a token
spread_follows : (k : Kind) (more : List ℕ)
    → MayFollow k (space_if ((not (is_punctuator (kind_number k)) && false) || (is_number (kind_number k) && true)) ++ (46 ∷ more))
spread_follows Punctuator more = tt
spread_follows Name more = refl
spread_follows IntValue more = space_follows IntValue (46 ∷ more)
spread_follows FloatValue more = space_follows FloatValue (46 ∷ more)
spread_follows StringValue more = λ e. omega arith
spread_follows BlockString more = tt

pub token_follows : (k : Kind) {j : Kind} {n : Nesting} {s rest : List ℕ} → IsLexicalElement s (TokenOf j n) rest → (p : Place) (more : List ℕ)
    → MayFollow k (space_if (is_spaced (kind_number k) (record { kind = kind_number j; spelling = s; place = p })) ++ (s ++ more))
token_follows k (name_token first continues ends) p more = word_follows k _
token_follows k (punctuator_token {b} m) p more = spaced_follows k _ (b ∷ more) (punctuator_follows k b more m)
token_follows k spread_token p more = spread_follows k (46 ∷ 46 ∷ more)
token_follows k (integer_token is ends) p more = word_follows k _
token_follows k (float_token is ends) p more = word_follows k _
token_follows k (string_token body is some) p more = word_follows k _
token_follows k (block_string_token closes) p more = word_follows k _

-- ---- tokens of the lexical grammar

past_is : (n : Nesting) (w : Where) → is_too_deep n w ≡ is_past n w.openers w.closers
past_is Unchanged w = refl
past_is Opens w = refl
past_is Closes w = refl

lexeme_kept : (b : Bool) (k : Kind) (n : Nesting) (bytes rest : List ℕ) (w : Where) (more : List Item) → is_past n w.openers w.closers ≡ b
    → IsLexicalElement bytes (TokenOf k n) rest
    → AreLexemes (openers_after n w.openers) (closers_after n w.closers) (split more).tokens
    → AreLexemes w.openers w.closers (split (token_then b (item_at (LexicalError too_deep) w) (item_at (TokenContent k bytes) w) more)).tokens
lexeme_kept true k n bytes rest w more e st h = tt
lexeme_kept false k n bytes rest w more e st h = (k, n, rest, refl, st, e, h)

-- the tokens of an input are tokens of the lexical grammar
piece_lexeme : (m : Meaning) (bytes rest : List ℕ) (w : Where) (more : Where → List Item) → IsLexicalElement bytes m rest
    → ((v : Where) → AreLexemes v.openers v.closers (split (more v)).tokens)
    → AreLexemes w.openers w.closers (split (piece_then m more w bytes)).tokens
piece_lexeme (Ignored m) bytes rest w more st f = f (past_ignored m (length bytes) w)
piece_lexeme (TokenOf k n) bytes rest w more st f =
    lexeme_kept (is_too_deep n w) k n bytes rest w (more (past_token n bytes w)) (sym (past_is n w)) st (f (past_token n bytes w))

pub are_lexemes : (ps : List Piece) (text stop : List ℕ) → IsTokenizedInto text ps stop → (w : Where)
    → AreLexemes w.openers w.closers (split (items_of w ps stop)).tokens
unfolding items_of
are_lexemes [] text [] h w = tt
are_lexemes [] text (b ∷ bs) h w = tt
are_lexemes (p ∷ ps) text stop (rest, e, st, h) w = piece_lexeme p.meaning p.bytes rest w (λ v. items_of v ps stop) st (λ v. are_lexemes ps rest stop h v)

-- ---- spaced tokens

-- from this place on, the input has exactly these tokens, at any positions, and then the end
abbrev pub IsTokenizedSpaced : Where → List ℕ → List Token → Type 0
IsTokenizedSpaced w text ts =
    (pieces : List Piece) × IsTokenizedInto text pieces [] × (map unplaced (split (items_of w pieces [])).tokens ≡ map unplaced ts)
    × IsEnd (split (items_of w pieces [])).last

tokenized_spaced : (b : Bool) (o c : ℕ) (text : List ℕ) (ts : List Token) → ((v : Where) → v.openers ≡ o → v.closers ≡ c → IsTokenizedSpaced v text ts)
    → (w : Where) → w.openers ≡ o → w.closers ≡ c → IsTokenizedSpaced w (space_if b ++ text) ts
unfolding items_of
tokenized_spaced false o c text ts f w p q = f w p q
tokenized_spaced true o c text ts f w p q =
    let (pieces, tokenized, alike, end) = f (past_ignored (Over 1) 1 w) p q in
    (record { bytes = 32 ∷ []; meaning = Ignored (Over 1) } ∷ pieces, (text, refl, ignored_space, tokenized), alike, end)

tokenized_token : (k : Kind) (n : Nesting) (s text : List ℕ) (t : Token) (ts : List Token) (w : Where) → is_too_deep n w ≡ false → IsLexicalElement s (TokenOf k n) text
    → t.kind ≡ kind_number k → t.spelling ≡ s → IsTokenizedSpaced (past_token n s w) text ts → IsTokenizedSpaced w (s ++ text) (t ∷ ts)
unfolding items_of
tokenized_token k n s text t ts w fits st kind spelling (pieces, tokenized, alike, end) =
    let one : unplaced (token_of w.position k s) ≡ unplaced t = λ i. record { kind = sym kind i; spelling = sym spelling i; place = nowhere } in
    (record { bytes = s; meaning = TokenOf k n } ∷ pieces, (text, refl, st, tokenized), rw fits (λ i. one i ∷ alike i), rw fits end)

-- the rest of the output after a token can follow that token
spaced_may_follow : (k : Kind) (o c : ℕ) (ts : List Token) → AreLexemes o c ts → MayFollow k (spaced_after (kind_number k) ts)
spaced_may_follow k o c [] l = end_follows k
spaced_may_follow k o c (t ∷ ts) (j, n, rest, kind, st, fits, l) =
    let same : record { kind = kind_number j; spelling = t.spelling; place = t.place }
    ≡ t = λ i. record { kind = sym kind i; spelling = t.spelling; place = t.place } in
    subst (λ (u : Token). MayFollow k (space_if (is_spaced (kind_number k) u) ++ (t.spelling ++ spaced_after t.kind ts))) same
    (token_follows k st t.place (spaced_after t.kind ts))

-- Any list of tokens of the lexical grammar, spaced, is tokenized into exactly these tokens.
pub tokens_tokenized : (kind o c : ℕ) (ts : List Token) → AreLexemes o c ts → (w : Where) → w.openers ≡ o → w.closers ≡ c → IsTokenizedSpaced w (spaced_after kind ts) ts
unfolding items_of
tokens_tokenized kind o c [] l w p q = ([], (refl, begins_none_at_end), refl, tt)
tokens_tokenized kind o c (t ∷ ts) (k, n, rest, is, st, fits, l) w p q =
    let follows = subst (λ (j : ℕ). MayFollow k (spaced_after j ts)) (sym is) (spaced_may_follow k _ _ ts l) in
    tokenized_spaced (is_spaced kind t) o c (t.spelling ++ spaced_after t.kind ts) (t ∷ ts) (λ v p q.
    tokenized_token k n t.spelling (spaced_after t.kind ts) t ts v (past_is n v ∙ rw (p, q) fits) (token_before st _ follows) is refl
    (tokens_tokenized t.kind _ _ ts l (past_token n t.spelling v) (ap (openers_after n) p) (ap (closers_after n) q))) w p q

-- before the first token there is no space, as after a punctuator
pub spaced_first : (ts : List Token) → spaced_after 0 ts ≡ spaced ts
spaced_first [] = refl
spaced_first (t ∷ ts) = refl

-- ---- minified outputs

pub has_spaced_tokens : (ts : List Token) → AreLexemes 0 0 ts → HasTokens (spaced ts) ts
has_spaced_tokens ts l =
    let (pieces, is, alike, end) = subst (λ (text : List ℕ). IsTokenizedSpaced start text ts) (spaced_first ts) (tokens_tokenized 0 0 0 ts l start refl refl) in
    (items_of start pieces [], (pieces, [], is, refl), alike, end)

-- the tokens of an input, spaced, are tokenized into the same tokens
pub spaced_items : (source : List ℕ) (items : List Item) → HasItems source items → HasTokens (spaced (split items).tokens) (split items).tokens
spaced_items source items (pieces, stop, is, e) =
    has_spaced_tokens (split items).tokens (subst (λ (l : List Item). AreLexemes 0 0 (split l).tokens) (sym e) (are_lexemes pieces source stop is start))

pub minified_tokens : (source text : List ℕ) → IsMinified source text → (items : List Item) → HasItems source items → HasTokens text (split items).tokens
minified_tokens source text (others, has, end, e) items h =
    subst (λ (t : List ℕ). HasTokens t (split items).tokens)
    (ap (λ (l : List Item). spaced (split l).tokens) (items_unique source items others h has) ∙ sym e) (spaced_items source items h)

-- positions are ignored
unplaced_after : (kind : ℕ) (ts : List Token) → spaced_after kind (map unplaced ts) ≡ spaced_after kind ts
unplaced_after kind [] = refl
unplaced_after kind (t ∷ ts) = ap (λ (l : List ℕ). space_if (is_spaced kind t) ++ (t.spelling ++ l)) (unplaced_after t.kind ts)

pub spaced_unplaced : (ts us : List Token) → map unplaced ts ≡ map unplaced us → spaced ts ≡ spaced us
spaced_unplaced ts us e =
    sym (spaced_first ts) ∙ sym (unplaced_after 0 ts) ∙ ap (spaced_after 0) e ∙ unplaced_after 0 us ∙ spaced_first us

-- a minified output, minified again, stays the same
pub minified_again : (source text : List ℕ) → IsMinified source text → IsMinified text text
minified_again source text (items, has, end, e) =
    let (others, h, alike, last) = minified_tokens source text (items, has, end, e) items has in
    (others, h, last, e ∙ sym (spaced_unplaced _ _ alike))

-- a source has one minified output
pub one_minified : (source text other : List ℕ) → IsMinified source text → IsMinified source other → text ≡ other
one_minified source text other (i, h, x, e) (j, k, y, f) = e ∙ ap (λ (l : List Item). spaced (split l).tokens) (items_unique source i j h k) ∙ sym f
