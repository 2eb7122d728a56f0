-- Which alternative of a plain value the next token decides.
use Rattle.std.proofs.Common.{◌≡◌, ◌≢◌, ℕ, true, false, List, [], ◌∷◌, drop, Some, codes, refl, sym, ap, ◌∙◌, inl, inr}
use Rattle.std.proofs.lemmas.Bool.{eq-eqb, cases_Bool, false_from_ne_true}
use Rattle.graphql_core.proofs.grammar.{same_spelling-true}
use Rattle.graphql_core.proofs.readers.Matches.{takes_token}
use Rattle.graphql_core.specs.{Token, Class, same_spelling, matches, Expr, One, Sym, ParseTree, Leaf, First, Second, Node, peek, first, sees}
use Rattle.graphql_core.specs.{Consumes, StopsFor, Unexpected, fails_node, TakesSome, kind_number, Items, after}
use Rattle.graphql_core.specs.{shared, tables, any, enum_class, keyword, plain_symbol, enum_name_symbol, word_of, plain_of}
use Rattle.graphql_core.specs.declared.tokenizer.token.Kind.{Kind}
use Rattle.graphql_core.specs.declared.tokenizer.token.Kind.TheVariants.{Punctuator, Name, IntValue, FloatValue, StringValue, BlockString}
use Rattle.graphql_core.proofs.readers.Reading.{unseen_either, takes_one}
use Rattle.graphql_core.proofs.readers.Steps.{Leads, leads_in}
use Rattle.graphql_core.proofs.readers.Alternatives.{IsSide, through, side_node, side_in, side_nth}
use Rattle.graphql_core.proofs.lexical.FirstBytes.{byte_back}

-- ---- alternatives

seen : (c : Class) (i : Items) (t : Token) → i.tokens ≡ t ∷ drop 1 i.tokens → matches c t ≡ true → sees (c ∷ []) (peek i.tokens) ≡ true
seen c i t first is = rw (ap peek first, is) refl

kind_seen : (k : Kind) (i : Items) (t : Token) → i.tokens ≡ t ∷ drop 1 i.tokens → t.kind ≡ kind_number k → sees (any k ∷ []) (peek i.tokens) ≡ true
kind_seen k i t first kind = seen (any k) i t first (rw (eq-eqb (kind_number k) t.kind (sym kind)) refl)

-- an alternative that a token of this kind decides
pub kind_led : {f : Expr} {inside : ParseTree → ParseTree} (k : Kind) (i : Items) (t : Token)
    → (sees (any k ∷ []) (peek i.tokens) ≡ true → IsSide shared (Sym plain_symbol) f inside i.tokens)
    → i.tokens ≡ t ∷ drop 1 i.tokens → t.kind ≡ kind_number k → Leads shared (Sym plain_symbol) f inside i i
kind_led k i t side first kind = leads_in (side (kind_seen k i t first kind))

-- ---- the alternatives of a plain value

module _ (ts : List Token) where
  true_side : sees (keyword (codes "true") ∷ []) (peek ts) ≡ true
      → IsSide shared (Sym plain_symbol) (One (keyword (codes "true"))) (λ x. Node plain_symbol (First x)) ts
  unfolding tables
  true_side h = side_in plain_symbol (λ x. refl) (side_nth (keyword (codes "true")) _ 0 refl h)

  false_side : sees (keyword (codes "false") ∷ []) (peek ts) ≡ true
      → IsSide shared (Sym plain_symbol) (One (keyword (codes "false"))) (λ x. Node plain_symbol (Second (First x))) ts
  unfolding tables
  false_side h = side_in plain_symbol (λ x. refl) (side_nth (keyword (codes "false")) _ 1 refl h)

  null_side : sees (keyword (codes "null") ∷ []) (peek ts) ≡ true
      → IsSide shared (Sym plain_symbol) (One (keyword (codes "null"))) (λ x. Node plain_symbol (Second (Second (First x)))) ts
  unfolding tables
  null_side h = side_in plain_symbol (λ x. refl) (side_nth (keyword (codes "null")) _ 2 refl h)

  enum_side : sees (enum_class ∷ []) (peek ts) ≡ true
      → IsSide shared (Sym plain_symbol) (Sym enum_name_symbol) (λ x. Node plain_symbol (Second (Second (Second (First x))))) ts
  unfolding tables
  enum_side h = side_in plain_symbol (λ x. refl) (side_nth enum_class _ 3 refl h)

  pub integer_side : sees (any IntValue ∷ []) (peek ts) ≡ true
      → IsSide shared (Sym plain_symbol) (One (any IntValue)) (λ x. Node plain_symbol (Second (Second (Second (Second (First x)))))) ts
  unfolding tables
  integer_side h = side_in plain_symbol (λ x. refl) (side_nth (any IntValue) _ 4 refl h)

  pub float_side : sees (any FloatValue ∷ []) (peek ts) ≡ true
      → IsSide shared (Sym plain_symbol) (One (any FloatValue)) (λ x. Node plain_symbol (Second (Second (Second (Second (Second (First x))))))) ts
  unfolding tables
  float_side h = side_in plain_symbol (λ x. refl) (side_nth (any FloatValue) _ 5 refl h)

  pub string_side : sees (any StringValue ∷ []) (peek ts) ≡ true
      → IsSide shared (Sym plain_symbol) (One (any StringValue)) (λ x. Node plain_symbol (Second (Second (Second (Second (Second (Second (First x)))))))) ts
  unfolding tables
  string_side h = side_in plain_symbol (λ x. refl) (side_nth (any StringValue) _ 6 refl h)

  pub block_side : sees (any BlockString ∷ []) (peek ts) ≡ true
      → IsSide shared (Sym plain_symbol) (One (any BlockString)) (λ x. Node plain_symbol (Second (Second (Second (Second (Second (Second (Second x)))))))) ts
  unfolding tables
  block_side h = side_in plain_symbol (λ x. refl) (side_nth (any BlockString) _ 7 refl h)

-- a punctuator, or the absence of a token, matches no alternative
pub punctuator_stopped : (i : Items) (t : Token) → i.tokens ≡ t ∷ drop 1 i.tokens → t.kind ≡ kind_number Punctuator
    → StopsFor shared (Sym plain_symbol) i i (Some Unexpected)
unfolding tables
punctuator_stopped i t first kind = (fails_node (unseen_either shared _ _ i.tokens refl refl (rw (ap peek first, kind) refl)), refl)

pub none_stopped : (i : Items) → i.tokens ≡ [] → StopsFor shared (Sym plain_symbol) i i (Some Unexpected)
unfolding tables
none_stopped i none = (fails_node (unseen_either shared _ _ i.tokens refl refl (rw (ap peek none) refl)), refl)

-- ---- names

-- a comparison of two spellings, with its sides exchanged
spelling_back : (xs ys : List ℕ) → same_spelling xs ys ≡ same_spelling ys xs
spelling_back [] [] = refl
spelling_back [] (y ∷ ys) = refl
spelling_back (x ∷ xs) [] = refl
spelling_back (x ∷ xs) (y ∷ ys) = rw (byte_back x y, spelling_back xs ys) refl

pub spelling_differs : (xs ys : List ℕ) → xs ≢ ys → same_spelling xs ys ≡ false
spelling_differs xs ys h = false_from_ne_true _ (λ e. h (same_spelling-true xs ys e))

-- a name is taken as the value that it denotes
module _ (i new : Items) (t : Token) (front : i.tokens ≡ t ∷ drop 1 i.tokens) (kind : t.kind ≡ kind_number Name) (past_it : new ≡ after i) where
  -- in the alternative of a class that the name is of
  of_class : (c : Class) (a : Expr) (f : ParseTree → ParseTree) → shared.good c t ≡ true → matches c t ≡ true
      → (sees (c ∷ []) (peek i.tokens) ≡ true → IsSide shared a (One c) f i.tokens) → Consumes shared a i (f (Leaf t)) new
  of_class c a f good is side =
      let (taken, same) = takes_one shared c i new t good (takes_token c i new t front past_it is) in
      ((side (seen c i t front is)).takes new.tokens (Leaf t) taken, same)

  enum_led : sees (enum_class ∷ []) (peek i.tokens) ≡ true
      → IsSide shared (Sym plain_symbol) (One enum_class) (λ x. Node plain_symbol (Second (Second (Second (First (Node enum_name_symbol x)))))) i.tokens
  enum_led h = through shared _ _ _ _ _ i.tokens (enum_side i.tokens h) (side_node shared enum_name_symbol i.tokens (λ x. refl))

  enum_matches : same_spelling (codes "true") t.spelling ≡ false → same_spelling (codes "false") t.spelling ≡ false
      → same_spelling (codes "null") t.spelling ≡ false → matches enum_class t ≡ true
  enum_matches h j k =
      let no_true = spelling_back t.spelling (codes "true") ∙ h in
      let no_false = spelling_back t.spelling (codes "false") ∙ j in
      let no_null = spelling_back t.spelling (codes "null") ∙ k in
      rw (kind, no_true, no_false, no_null) refl

  pub word_taken : TakesSome shared (Sym plain_symbol) i new (λ x. word_of t.spelling ≡ plain_of x)
  word_taken =
      elim (cases_Bool (same_spelling (codes "true") t.spelling)) [
        | inl h ↦ (_, of_class (keyword (codes "true")) _ _ refl (rw (kind, h) refl) (true_side i.tokens), rw h refl)
        | inr h ↦
            elim (cases_Bool (same_spelling (codes "false") t.spelling)) [
              | inl j ↦ (_, of_class (keyword (codes "false")) _ _ refl (rw (kind, j) refl) (false_side i.tokens), rw (h, j) refl)
              | inr j ↦
                  elim (cases_Bool (same_spelling (codes "null") t.spelling)) [
                    | inl k ↦ (_, of_class (keyword (codes "null")) _ _ refl (rw (kind, k) refl) (null_side i.tokens), rw (h, j, k) refl)
                    | inr k ↦ (_, of_class enum_class _ _ refl (enum_matches h j k) enum_led, rw (h, j, k) refl)
                  ]
            ]
      ]
