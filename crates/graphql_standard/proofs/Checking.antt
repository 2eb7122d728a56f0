-- What a checker has read, and the first error of a source.
use Rattle.std.specs.List.{count_by}
use Rattle.std.proofs.Common.{◌≡◌, ◌≤◌, ◌<◌, ◌+◌, ◌⊎◌, ℕ, zero, suc, replicate, Bool, true, false, cond, List, [], ◌∷◌, ◌++◌, length, drop}
use Rattle.std.proofs.Common.{refl, sym, ap, ◌∙◌, subst, inl, inr, arith, append_assoc, append-nil, length-append}
use Rattle.std.proofs.lemmas.List.Sums.{sum_by-append, sum_by-cons, count_by-le-length}
use Rattle.graphql_core.specs.{Token, Piece, Meaning, Ignored, TokenOf, sample, max_length}
use Rattle.graphql_core.specs.lexical.Lexical.{ignored_space}
use Rattle.graphql_standard.specs.lexical.Elements.{IsElement, shared_element}
use Rattle.graphql_standard.specs.Checking.{token_and, tokens_of, is_opening, is_closing, openers, closers, IsWithin, BeginsWithAll}
use Rattle.graphql_standard.specs.Checking.{HasCheckedTokens, HasChecked, IsChecking, space}
use Rattle.graphql_standard.specs.declared.brackets.Brackets.{Brackets}
use Rattle.graphql_standard.specs.Recognizing.{BeginsDocument, HasRead}
use Rattle.graphql_standard.specs.steps.Brackets.{one_if, Counts}
use Rattle.graphql_standard.specs.steps.Checking.{HasFront}
use Rattle.graphql_standard.specs.steps.Stacks.{stack_of}
use Rattle.graphql_standard.specs.declared.checker.Checker.{Checker}
use Rattle.graphql_standard.proofs.Documents.{read_begins}
use Rattle.graphql_standard.proofs.lexical.CoreNumbers.{number_ends, some_number}
use Rattle.graphql_standard.proofs.lexical.Elements.{InCore, in_core, a_number, element_in_core}
use Rattle.graphql_standard.proofs.lexical.Divisions.{some_bytes}

element_some : {bytes rest : List ℕ} {m : Meaning} → IsElement bytes m rest → 0 < length bytes
element_some {bytes} {rest} {m} el = by (element_in_core el)
  where
    by : InCore bytes m rest → 0 < length bytes
    by (in_core st) = some_bytes st
    by (a_number k n ends is) = some_number bytes (number_ends n)

pub parts_more : (source : List ℕ) (ps : List Piece) (rest bytes after : List ℕ) (m : Meaning) → BeginsWithAll source ps rest → rest ≡ bytes ++ after
    → IsElement bytes m after → BeginsWithAll source (ps ++ record { bytes = bytes; meaning = m } ∷ []) after
parts_more source [] rest bytes after m e is el = (after, e ∙ is, el, refl)
parts_more source (p ∷ ps) rest bytes after m (next, e, first, more) is el = (next, e, first, parts_more next ps rest bytes after m more is el)

and_token : (m : Meaning) (bytes : List ℕ) (all ts us : List Token) → all ≡ ts ++ us → token_and m bytes all ≡ token_and m bytes ts ++ us
and_token (Ignored m) bytes all ts us e = e
and_token (TokenOf k n) bytes all ts us e = ap (λ (l : List Token). sample k bytes ∷ l) e

pub tokens_more : (ps qs : List Piece) → tokens_of (ps ++ qs) ≡ tokens_of ps ++ tokens_of qs
tokens_more [] qs = refl
tokens_more (p ∷ ps) qs = and_token p.meaning p.bytes (tokens_of (ps ++ qs)) (tokens_of ps) (tokens_of qs) (tokens_more ps qs)

one_token : (m : Meaning) (bytes : List ℕ) (ts : List Token) → length (token_and m bytes ts) ≤ length ts + 1
one_token (Ignored m) bytes ts = omega arith
one_token (TokenOf k n) bytes ts = omega arith

-- each token takes a byte of the source
pub tokens_bound : (source : List ℕ) (ps : List Piece) (rest : List ℕ) → BeginsWithAll source ps rest
    → length (tokens_of ps) + length rest ≤ length source
tokens_bound source [] rest e = omega (arith, ap length e)
tokens_bound source (p ∷ ps) rest (after, e, el, more) =
    omega (arith, ap length e, length-append p.bytes after, element_some el, tokens_bound after ps rest more, one_token p.meaning p.bytes (tokens_of ps))

-- ---- brackets

pub count_more : (p : Token → Bool) (ts : List Token) (t : Token) → count_by p (ts ++ t ∷ []) ≡ count_by p ts + one_if (p t)
count_more p ts t = omega (arith, sum_by-append (λ x. cond (p x) 1 0) ts (t ∷ []), sum_by-cons (λ x. cond (p x) 1 0) t [])

none_left : {A : Type 0} (xs ys : List A) → [] ≡ xs ++ ys → ys ≡ []
none_left [] ys e = sym e
none_left (x ∷ xs) ys e = absurd cc

none_first : {A : Type 0} (xs ys : List A) → [] ≡ xs ++ ys → xs ≡ []
none_first [] ys e = refl
none_first (x ∷ xs) ys e = absurd cc

-- the front of a list with one more item is the list, or a front without the item
split_last : (ts front back : List Token) (t : Token) → ts ++ t ∷ [] ≡ front ++ back → (back ≡ []) ⊎ ((b : List Token) × (ts ≡ front ++ b))
split_last ts [] back t e = inr (ts, refl)
split_last [] (x ∷ front) back t e = inl (none_left front back (ap (drop 1) e))
split_last (y ∷ ts) (x ∷ front) back t e = on (split_last ts front back t (ap (drop 1) e))
  where
    on : (back ≡ []) ⊎ ((b : List Token) × (ts ≡ front ++ b)) → (back ≡ []) ⊎ ((b : List Token) × (y ∷ ts ≡ x ∷ (front ++ b)))
    on (inl none) = inl none
    on (inr (b, is)) = inr (b, cc)

pub within_now : (limit : ℕ) (ts : List Token) → IsWithin limit ts → openers ts ≤ closers ts + limit
within_now limit ts w = w ts [] (sym (append-nil ts))

within_more : (limit : ℕ) (ts : List Token) (t : Token) → IsWithin limit ts → openers (ts ++ t ∷ []) ≤ closers (ts ++ t ∷ []) + limit
    → IsWithin limit (ts ++ t ∷ [])
within_more limit ts t w h front back e = by (split_last ts front back t e)
  where
    by : (back ≡ []) ⊎ ((b : List Token) × (ts ≡ front ++ b)) → openers front ≤ closers front + limit
    by (inl none) =
        let same : ts ++ t ∷ [] ≡ front = e ∙ (ap (λ (l : List Token). front ++ l) none ∙ append-nil front) in
        subst (λ (l : List Token). openers l ≤ closers l + limit) same h
    by (inr (b, is)) = w front b is

within_next : (limit : ℕ) (ts : List Token) (t : Token) → IsWithin limit ts → (is_opening t ≡ true → openers ts < closers ts + limit)
    → IsWithin limit (ts ++ t ∷ [])
within_next limit ts t w h = within_more limit ts t w (by (is_opening t) refl)
  where
    by : (b : Bool) → is_opening t ≡ b → openers (ts ++ t ∷ []) ≤ closers (ts ++ t ∷ []) + limit
    by true e = omega (arith, count_more is_opening ts t, count_more is_closing ts t, ap one_if e, h e)
    by false e = omega (arith, count_more is_opening ts t, count_more is_closing ts t, ap one_if e, within_now limit ts w)

pub within_none : (limit : ℕ) → IsWithin limit []
within_none limit front back e = rw (none_first front back e) (omega arith)

-- ---- the tokens that a checker has read

pub none_read : (limit : ℕ) (c : Checker) → c.limit ≡ limit → HasRead [] c.recognizer → c.brackets.openers ≡ 0 → c.brackets.closers ≡ 0
    → HasCheckedTokens limit [] c
none_read limit c is read o k = record {
  limit_is = is;
  read = read;
  begins = read_begins [] (stack_of c.recognizer.stack.items) read;
  within = within_none limit;
  openers_are = o;
  closers_are = k;
}

pub one_read : (limit : ℕ) (ts : List Token) (t : Token) (old new : Checker) → HasCheckedTokens limit ts old
    → HasRead (ts ++ t ∷ []) new.recognizer → BeginsDocument (ts ++ t ∷ []) → new.limit ≡ old.limit → Counts old.brackets t old.limit new.brackets
    → HasCheckedTokens limit (ts ++ t ∷ []) new
one_read limit ts t old new h read begins same (o, k, capacity) = record {
  limit_is = same ∙ h.limit_is;
  read = read;
  begins = begins;
  within = within_next limit ts t h.within (λ is. let less = capacity is in omega (arith, less, h.openers_are, h.closers_are, h.limit_is));
  openers_are = omega (arith, o, h.openers_are, count_more is_opening ts t);
  closers_are = omega (arith, k, h.closers_are, count_more is_closing ts t);
}

-- `limit` brackets are open
pub is_full : (limit : ℕ) (ts : List Token) (c : Checker) → HasCheckedTokens limit ts c → c.brackets.closers + c.limit ≤ c.brackets.openers
    → openers ts ≡ closers ts + limit
is_full limit ts c h full = omega (arith, full, within_now limit ts h.within, h.openers_are, h.closers_are, h.limit_is)

-- ---- the elements that a checker has read

front_of : (source : List ℕ) (ps : List Piece) (rest : List ℕ) → BeginsWithAll source ps rest → (front : List ℕ) × (source ≡ front ++ rest)
front_of source [] rest e = ([], e)
front_of source (p ∷ ps) rest (after, e, el, more) =
    let (front, is) = front_of after ps rest more in
    (p.bytes ++ front, e ∙ ap (λ (l : List ℕ). p.bytes ++ l) is ∙ sym (append_assoc p.bytes front rest))

pub has_front : (c : Checker) → IsChecking c → HasFront c
has_front c (limit, source, ps, h) = let (front, is) = front_of source ps c.rest.now h.parts in (front, h.source_is ∙ is)

pub rest_shorter : (c : Checker) → HasFront c → length c.rest.now ≤ length c.source.now
rest_shorter c (front, is) = omega (arith, ap length is, length-append front c.rest.now)

pub rest_short : (c : Checker) → IsChecking c → length c.rest.now ≤ max_length
rest_short c (limit, source, ps, h) = omega (arith, tokens_bound source ps c.rest.now h.parts, h.short)

pub openers_short : (c : Checker) → IsChecking c → c.brackets.openers ≤ max_length
openers_short c (limit, source, ps, h) =
    omega (arith, tokens_bound source ps c.rest.now h.parts, h.short, h.tokens.openers_are, count_by-le-length is_opening (tokens_of ps))

pub closers_short : (c : Checker) → IsChecking c → c.brackets.closers ≤ max_length
closers_short c (limit, source, ps, h) =
    omega (arith, tokens_bound source ps c.rest.now h.parts, h.short, h.tokens.closers_are, count_by-le-length is_closing (tokens_of ps))

pub same_tokens : (limit : ℕ) (ts us : List Token) (old new : Checker) → new.recognizer ≡ old.recognizer → new.brackets ≡ old.brackets
    → new.limit ≡ old.limit → ts ≡ us → HasCheckedTokens limit ts old → HasCheckedTokens limit us new
same_tokens limit ts us old new r b l e h = record {
  limit_is = l ∙ h.limit_is;
  read = subst (λ (x : List Token). HasRead x new.recognizer) e (subst (HasRead ts) (sym r) h.read);
  begins = subst BeginsDocument e h.begins;
  within = subst (IsWithin limit) e h.within;
  openers_are = ap (λ (x : Brackets). x.openers) b ∙ (h.openers_are ∙ ap openers e);
  closers_are = ap (λ (x : Brackets). x.closers) b ∙ (h.closers_are ∙ ap closers e);
}

-- one more element is read
pub element_read : (limit : ℕ) (source : List ℕ) (ps : List Piece) (old new : Checker) (bytes : List ℕ) (m : Meaning) → HasChecked limit source ps old
    → old.rest.now ≡ bytes ++ new.rest.now → IsElement bytes m new.rest.now → new.source.now ≡ old.source.now
    → HasCheckedTokens limit (tokens_of ps ++ token_and m bytes []) new
    → HasChecked limit source (ps ++ record { bytes = bytes; meaning = m } ∷ []) new
element_read limit source ps old new bytes m h e el same tokens = record {
  source_is = same ∙ h.source_is;
  short = h.short;
  parts = parts_more source ps old.rest.now bytes new.rest.now m h.parts e el;
  tokens = subst (λ (ts : List Token). HasCheckedTokens limit ts new) (sym (tokens_more ps (record { bytes = bytes; meaning = m } ∷ []))) tokens;
}

-- ---- spaces

spaces_begin : (n : ℕ) (rest after : List ℕ) → rest ≡ replicate n 32 ++ after → BeginsWithAll rest (replicate n space) after
spaces_begin zero rest after e = e
spaces_begin (suc n) rest after e = (replicate n 32 ++ after, e, shared_element refl ignored_space, spaces_begin n _ after refl)

parts_both : (source : List ℕ) (ps qs : List Piece) (rest after : List ℕ) → BeginsWithAll source ps rest → BeginsWithAll rest qs after
    → BeginsWithAll source (ps ++ qs) after
parts_both source [] qs rest after e more = subst (λ (l : List ℕ). BeginsWithAll l qs after) (sym e) more
parts_both source (p ∷ ps) qs rest after (next, e, el, some) more = (next, e, el, parts_both next ps qs rest after some more)

no_tokens : (n : ℕ) → tokens_of (replicate n space) ≡ []
no_tokens zero = refl
no_tokens (suc n) = no_tokens n

-- some spaces are read
pub spaces_read : (limit : ℕ) (source : List ℕ) (ps : List Piece) (n : ℕ) (old new : Checker) → HasChecked limit source ps old
    → old.rest.now ≡ replicate n 32 ++ new.rest.now → new.source.now ≡ old.source.now → new.recognizer ≡ old.recognizer
    → new.brackets ≡ old.brackets → new.limit ≡ old.limit → HasChecked limit source (ps ++ replicate n space) new
spaces_read limit source ps n old new h e same r b l =
    let tokens = tokens_more ps (replicate n space) ∙ (ap (λ (ts : List Token). tokens_of ps ++ ts) (no_tokens n) ∙ append-nil (tokens_of ps)) in
    record {
      source_is = same ∙ h.source_is;
      short = h.short;
      parts = parts_both source ps (replicate n space) old.rest.now new.rest.now h.parts (spaces_begin n old.rest.now new.rest.now e);
      tokens = same_tokens limit (tokens_of ps) (tokens_of (ps ++ replicate n space)) old new r b l (sym tokens) h.tokens;
    }
