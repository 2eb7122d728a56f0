-- A source over a token stream.
use Rattle.std.proofs.Common.{◌≡◌, ℕ, false, List, [], ◌∷◌, length, Option, Some, None, Result, Ok, Err, All, refl, sym, ap, subst, ◌∙◌}
use Rattle.std.proofs.Common.{arith}
use Rattle.std.proofs.lemmas.List.Elements.{All-cons, All-head, All-tail, All-same}
use Rattle.graphql_core.specs.declared.tokenizer.token.Token.{Token}
use Rattle.graphql_core.specs.{bad_text, EndOfInput, LexicalError, is_token, Where, Item, item_at, TokenContent, Stream, one_more, last_alone, asked_once}
use Rattle.graphql_core.specs.{NextItem, next_place, Token as Word, no_token, Items, split, held, items_since, then_items, only_last, IsLexeme, token_of}
use Rattle.graphql_core.specs.{place_of, shown}
use Rattle.graphql_core.specs.declared.tokenizer.token.Bad.{Bad}
use Rattle.graphql_core.specs.declared.position.Pos.{Pos}
use Rattle.graphql_core.specs.declared.tokenizer.token.Kind.{Kind}
use Rattle.graphql_core.specs.declared.helpers.cursor.Lookahead.{Lookahead}
use Rattle.graphql_core.specs.declared.helpers.cursor.Lookahead.TheVariants as lookahead
use Rattle.graphql_core.specs.sources.Source as source

-- a stream that was asked for a token is asked for one item less
spent_same : (old new : Stream) (k : Kind) (bytes : List ℕ) (w : Where) → old.items ≡ item_at (TokenContent k bytes) w ∷ new.items
    → new.cuts ≡ one_more old.cuts
    → asked_once new ≡ asked_once old
spent_same old new k bytes w e tokenized =
    let items : last_alone new.items ≡ last_alone old.items = ap last_alone (sym e) in
    let cuts : (asked_once new).cuts ≡ (asked_once old).cuts = omega (arith, tokenized, ap length e) in
    λ i. record { items = items i; cuts = cuts i }

-- at its last item the stream was asked for that item
spent_last : (old new : Stream) (i : Item) → is_token i.content ≡ false → old.items ≡ i ∷ [] → new.items ≡ old.items → new.cuts ≡ one_more old.cuts
    → new ≡ asked_once old
spent_last old new i last e stays tokenized =
    let alone : last_alone (i ∷ []) ≡ i ∷ [] = rw last refl in
    let items : new.items ≡ last_alone old.items = stays ∙ e ∙ sym alone ∙ ap last_alone (sym e) in
    let cuts : new.cuts ≡ (asked_once old).cuts = omega (arith, tokenized, ap length e) in
    λ k. record { items = items k; cuts = cuts k }

-- the next item, and the items after it
pub held_stream : (n : ℕ) (old new : Stream) (r : Result (Option Token) Bad) (p : Pos) → NextItem old.items r new.items → new.cuts ≡ one_more old.cuts
    → p ≡ (next_place old.items).position → held n p r new ≡ items_since n old
held_stream n old new (Ok (Some t)) p (w, e) tokenized q =
    let spent = spent_same old new t.kind t.value.now w e tokenized in
    let same : then_items (token_of p t.kind t.value.now) (split new.items) ≡ split old.items = rw (q, e) refl in
    λ i. record { tokens = (same i).tokens; last = (same i).last; spent = record { first_cuts = n; stream = spent i } }
held_stream n old new (Ok None) p (w, e, stays) tokenized q =
    let spent = spent_last old new (item_at EndOfInput w) refl e stays tokenized in
    let same : only_last (source.LastIsEnd (place_of p)) ≡ split old.items = rw (q, e) refl in
    λ i. record { tokens = (same i).tokens; last = (same i).last; spent = record { first_cuts = n; stream = spent i } }
held_stream n old new (Err b) p (w, e, stays) tokenized q =
    let spent = spent_last old new (item_at (LexicalError (bad_text b)) w) refl e stays tokenized in
    let same : only_last (source.LastIsError (place_of p) (no_token (bad_text b))) ≡ split old.items = rw (q, e) refl in
    λ i. record { tokens = (same i).tokens; last = (same i).last; spent = record { first_cuts = n; stream = spent i } }

-- the stream of an input at its start
pub fresh : (s : Stream) (items : List Item) → items ≡ s.items → s.cuts ≡ 0 → s ≡ record { items = items; cuts = 0 }
fresh s items same none = λ i. record { items = sym same i; cuts = none i }

-- ---- how often the stream was asked

-- if no token is left, it asked for all items
pub all_requested : (n : ℕ) (p : Pos) (t : Token) (e : Lookahead) (s : Stream) → (shown n p t e s).tokens ≡ [] → s ≡ (shown n p t e s).spent.stream
all_requested n p t lookahead.Token s none = absurd cc
all_requested n p t lookahead.End s none = refl
all_requested n p t (lookahead.Error b) s none = refl

-- ---- tokens of the lexical grammar

-- the tokens after such a token are also such tokens
pub later_lexemes : (n : ℕ) (old new : Stream) (p q : Pos) (t : Token) (e : Lookahead) (r : Result (Option Token) Bad)
    → All IsLexeme (shown n p t e old).tokens → e ≡ lookahead.Token → NextItem old.items r new.items → new.cuts ≡ one_more old.cuts
    → q ≡ (next_place old.items).position → All IsLexeme (held n q r new).tokens
later_lexemes n old new p q t e r all some item tokenized place =
    let after : All IsLexeme (split old.items).tokens = All-tail IsLexeme (token_of p t.kind t.value.now) (split old.items).tokens
    (subst (λ x. All IsLexeme (shown n p t x old).tokens) some all) in
    All-same IsLexeme _ _ (ap (λ (i : Items). i.tokens) (held_stream n old new r q item tokenized place)) after

-- whether a token is a token of the lexical grammar does not depend on its position
pub moved_lexemes : (p q : Pos) (t : Token) (ts : List Word) → All IsLexeme (token_of p t.kind t.value.now ∷ ts)
    → All IsLexeme (token_of q t.kind t.value.now ∷ ts)
moved_lexemes p q t ts all = All-cons IsLexeme _ ts (All-head IsLexeme _ ts all) (All-tail IsLexeme _ ts all)
