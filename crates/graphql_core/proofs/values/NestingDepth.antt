-- What the tokens of an input are, and how deep their brackets are nested.
use Rattle.std.proofs.Common.{◌≡◌, ◌≤◌, ℕ, zero, suc, ◌+◌, ◌-◌, Bool, true, false, cond, ◌||◌, ◌&&◌, ◌==◌, List, [], ◌∷◌, ◌++◌, length, drop, All, refl}
use Rattle.std.proofs.Common.{append-nil, sym, ap, ap₂, ◌∙◌, subst, arith, inl, inr, codes, eqb-true, replicate, pos, ◌≤ℤ◌}
use Rattle.std.proofs.lemmas.Int.{ints}
use Rattle.std.proofs.lemmas.Bool.Decides.{nat_tests}
use Rattle.std.proofs.lemmas.List.Elements.{All-nil, All-cons}
use Rattle.std.proofs.lemmas.Bool.{cases_Bool, and_parts, or_cases, false_from_ne_true, eq-eqb, both_ways}
use Rattle.std.proofs.lemmas.List.{drop_at, drop-drop, length-replicate}
use Rattle.graphql_core.specs.{class_kind, takes_spelling, in_any, apart_from, within_any, Token, Place, Class, Spelled, matches, name_token, punctuator_token}
use Rattle.graphql_core.specs.{is_opener, is_closer, IsName, Meaning, Ignored, TokenOf, IsLexicalElement, spread_token, integer_token, float_token, string_token}
use Rattle.graphql_core.specs.{block_string_token, Piece, IsTokenizedInto, HasItemsFrom, depth_of, is_full, last_item, Where, Item, item_at, TokenContent, HasItems}
use Rattle.graphql_core.specs.{start, past_ignored, past_token, piece_then, items_of, AreItemsOfRest, next_place, ParseTree, Nothing, Leaf, Both, First, Second}
use Rattle.graphql_core.specs.{Stop, More, Node, leaves, kind_number, Last, split, place_of, token_of, IsLexeme}
use Rattle.graphql_core.proofs.grammar.{all_within-sound, apart_from-sound}
use Rattle.graphql_core.specs.declared.tokenizer.token.Kind.{Kind}
use Rattle.graphql_core.specs.declared.tokenizer.token.Kind.TheVariants.{Punctuator, Name}
use Rattle.graphql_core.specs.declared.tokenizer.piece.Nesting.{Nesting}
use Rattle.graphql_core.specs.declared.tokenizer.piece.Nesting.TheVariants.{Unchanged, Opens, Closes}

-- ---- how a token changes the depth

abbrev pub openings : List Class
openings = Spelled (kind_number Punctuator) (codes "(") ∷ Spelled (kind_number Punctuator) (codes "[") ∷ Spelled (kind_number Punctuator) (codes "{") ∷ []

abbrev pub closings : List Class
closings = Spelled (kind_number Punctuator) (codes ")") ∷ Spelled (kind_number Punctuator) (codes "]") ∷ Spelled (kind_number Punctuator) (codes "}") ∷ []

abbrev pub nesting_of : Token → Nesting
nesting_of t = cond (in_any openings t) Opens (cond (in_any closings t) Closes Unchanged)

-- P holds of how many brackets can be opened after a token, if n can be opened before it
abbrev pub Past : Nesting → ℕ → (ℕ → Type 0) → Type 0
Past Unchanged n P = P n
Past Opens n P = (m : ℕ) × (n ≡ suc m) × P m
Past Closes n P = P (suc n)

-- the same after several tokens, all of the lexical grammar
abbrev pub Nests : List Token → ℕ → (ℕ → Type 0) → Type 0
Nests [] n P = P n
Nests (t ∷ ts) n P = IsLexeme t × Past (nesting_of t) n (λ m. Nests ts m P)

-- the same after the tokens of a tree
abbrev pub NestsTree : ParseTree → ℕ → (ℕ → Type 0) → Type 0
NestsTree Nothing n P = P n
NestsTree (Leaf t) n P = IsLexeme t × Past (nesting_of t) n P
NestsTree (Both x y) n P = NestsTree x n (λ m. NestsTree y m P)
NestsTree (First x) n P = NestsTree x n P
NestsTree (Second y) n P = NestsTree y n P
NestsTree Stop n P = P n
NestsTree (More x y) n P = NestsTree x n (λ m. NestsTree y m P)
NestsTree (Node k x) n P = NestsTree x n P

abbrev pub Anything : ℕ → Type 0
Anything n = Unit {0}

-- ---- the tokens of an input

abbrev punctuator_token_at : ℕ → Place → Token
punctuator_token_at b p = record { kind = kind_number Punctuator; spelling = b ∷ []; place = p }

opener_same : (b : ℕ) (p : Place) → in_any openings (punctuator_token_at b p) ≡ is_opener b
opener_same b p = grind (arith, nat_tests)

closer_same : (b : ℕ) (p : Place) → in_any closings (punctuator_token_at b p) ≡ is_closer b
closer_same b p = grind (arith, nat_tests)

-- the kind and the bytes of a token decide its nesting
element-nesting : {bytes : List ℕ} {k : Kind} {s : Nesting} {rest : List ℕ} → IsLexicalElement bytes (TokenOf k s) rest → (p : Place)
    → nesting_of (record { kind = kind_number k; spelling = bytes; place = p }) ≡ s
element-nesting (name_token first more stop) p = refl
element-nesting (punctuator_token {b} is) p = rw (opener_same b p, closer_same b p) refl
element-nesting spread_token p = refl
element-nesting (integer_token run ends) p = refl
element-nesting (float_token run ends) p = refl
element-nesting (string_token body units next) p = refl
element-nesting (block_string_token closes) p = refl

-- n more brackets can be opened there
abbrev pub IsCapacity : Where → ℕ → Type 0
IsCapacity w n = w.openers + n ≡ w.closers + 50

-- if the depth is below the limit, one more bracket can be opened
not_full : (w : Where) (n : ℕ) → IsCapacity w n → is_full w ≡ false → (m : ℕ) × (n ≡ suc m)
not_full w zero e f = absurd (both_ways (is_full w) f (eq-eqb _ _ (omega arith)))
not_full w (suc m) e f = (m, refl)

-- The rest of an input after some tokens: the items of lexical elements from a place where m brackets can be opened.
pub record Left (whole : List ℕ) (last : Last) (is : List Item) (others : List Token) (m : ℕ) : Type 0 where
  pub place : Where
  pub pieces : List Piece
  pub rest : List ℕ
  pub stop : List ℕ
  pub tokenized : IsTokenizedInto rest pieces stop
  pub there : drop place.offset whole ≡ rest
  pub capacity : IsCapacity place m
  pub items : is ≡ items_of place pieces stop
  pub tokens : (split is).tokens ≡ others
  pub ends : (split is).last ≡ last

pub past_bytes : (n : ℕ) (whole bytes rest : List ℕ) → drop n whole ≡ bytes ++ rest → drop (n + length bytes) whole ≡ rest
past_bytes n whole bytes rest there = sym (drop-drop (length bytes) n whole) ∙ ap (drop (length bytes)) there ∙ drop_at bytes rest (length bytes) refl

module _ (whole stop : List ℕ) (last : Last) (others : List Token) where
  -- if the tokens of the items begin with these, the others are left after them
  abbrev LeavesAfter : List Token → ℕ → List Item → Type 0
  LeavesAfter front n is = (split is).tokens ≡ front ++ others → (split is).last ≡ last
      → Nests front n (Left whole last (drop (length front) is) others)

  abbrev LeavesLater : List ℕ → (Where → List Item) → Type 0
  LeavesLater rest more = (v : Where) (n : ℕ) → drop v.offset whole ≡ rest → IsCapacity v n → (front : List Token) → LeavesAfter front n (more v)

  leaves_token : (k : Kind) (s : Nesting) (bytes rest : List ℕ) (w : Where) (n : ℕ) (more : List Item) (t : Token) (ts : List Token)
      → IsLexicalElement bytes (TokenOf k s) rest
      → ((split more).tokens ≡ ts ++ others → (split more).last ≡ last → Past s n (λ m. Nests ts m (Left whole last (drop (length ts) more) others)))
      → LeavesAfter (t ∷ ts) n (item_at (TokenContent k bytes) w ∷ more)
  leaves_token k s bytes rest w n more t ts st h is ends =
      let first : token_of w.position k bytes ≡ t = cc in
      subst (λ u. IsLexeme u × Past (nesting_of u) n (λ m. Nests ts m (Left whole last (drop (length ts) more) others))) first
      ((k, s, rest, refl, st), rw (element-nesting st (place_of w.position)) (h (ap (drop 1) is) ends))

  -- a lexical element, and what follows it
  leaves_piece : (m : Meaning) (bytes rest : List ℕ) → IsLexicalElement bytes m rest → (w : Where) (n : ℕ) → IsCapacity w n → drop w.offset whole ≡ bytes ++ rest
      → (more : Where → List Item) → LeavesLater rest more → (t : Token) (ts : List Token) → LeavesAfter (t ∷ ts) n (piece_then m more w bytes)
  leaves_piece (Ignored m) bytes rest st w n e there more h t ts =
      h (past_ignored m (length bytes) w) n (past_bytes w.offset whole bytes rest there) e (t ∷ ts)
  leaves_piece (TokenOf k Unchanged) bytes rest st w n e there more h t ts =
      let v = past_token Unchanged bytes w in
      leaves_token k Unchanged bytes rest w n (more v) t ts st (h v n (past_bytes w.offset whole bytes rest there) e ts)
  leaves_piece (TokenOf k Closes) bytes rest st w n e there more h t ts =
      let v = past_token Closes bytes w in
      leaves_token k Closes bytes rest w n (more v) t ts st (h v (suc n) (past_bytes w.offset whole bytes rest there) (omega arith) ts)
  leaves_piece (TokenOf k Opens) bytes rest st w n e there more h t ts =
      elim (cases_Bool (is_full w)) [
        | inl full ↦ rw full (λ is ends. absurd cc)
        | inr f ↦
            let v = past_token Opens bytes w in
            let (m, one) = not_full w n e f in
            rw f (leaves_token k Opens bytes rest w n (more v) t ts st
            (λ is ends. (m, one, h v m (past_bytes w.offset whole bytes rest there) (omega (arith, one)) ts is ends)))
      ]

  leaves_last : (w : Where) (n : ℕ) (t : Token) (ts : List Token) (end : List ℕ) → LeavesAfter (t ∷ ts) n (last_item w end ∷ [])
  leaves_last w n t ts [] is ends = absurd cc
  leaves_last w n t ts (b ∷ bs) is ends = absurd cc

  -- no token is taken
  leaves_all : (ps : List Piece) (text : List ℕ) → IsTokenizedInto text ps stop → (w : Where) (n : ℕ) → IsCapacity w n → drop w.offset whole ≡ text
      → LeavesAfter [] n (items_of w ps stop)
  leaves_all ps text tokenized w n e there is ends = record {
    place = w;
    pieces = ps;
    rest = text;
    stop = stop;
    tokenized = tokenized;
    there = there;
    capacity = e;
    items = refl;
    tokens = is;
    ends = ends;
  }

  leaves_items : (ps : List Piece) (text : List ℕ) → IsTokenizedInto text ps stop → (w : Where) (n : ℕ) → IsCapacity w n → drop w.offset whole ≡ text
      → (front : List Token) → LeavesAfter front n (items_of w ps stop)
  unfolding items_of
  leaves_items [] text tokenized w n e there [] = leaves_all [] text tokenized w n e there
  leaves_items [] text tokenized w n e there (t ∷ ts) = leaves_last w n t ts stop
  leaves_items (q ∷ qs) text tokenized w n e there [] = leaves_all (q ∷ qs) text tokenized w n e there
  leaves_items (q ∷ qs) text (rest, same, st, tokenized) w n e there (t ∷ ts) =
      leaves_piece q.meaning q.bytes rest st w n e (there ∙ same) (λ v. items_of v qs stop)
      (λ v m at capacity. leaves_items qs rest tokenized v m capacity at) t ts

-- at most 50 brackets are open among the first tokens of an input
pub nests_before : (text : List ℕ) (items : List Item) → HasItems text items → (front others : List Token) → (split items).tokens ≡ front ++ others
    → Nests front 50 (Left text (split items).last (drop (length front) items) others)
nests_before text items (ps, stop, tokenized, e) front others =
    rw e (λ is. leaves_items text stop _ others ps text tokenized start 50 refl refl front is refl)

past_map : (s : Nesting) (n : ℕ) (P Q : ℕ → Type 0) → ((m : ℕ) → P m → Q m) → Past s n P → Past s n Q
past_map Unchanged n P Q f h = f n h
past_map Opens n P Q f (m, e, h) = (m, e, f m h)
past_map Closes n P Q f h = f (suc n) h

nests_map : (ts : List Token) (n : ℕ) (P Q : ℕ → Type 0) → ((m : ℕ) → P m → Q m) → Nests ts n P → Nests ts n Q
nests_map [] n P Q f h = f n h
nests_map (t ∷ ts) n P Q f (l, h) = (l, past_map (nesting_of t) n _ _ (λ m. nests_map ts m P Q f) h)

-- and among all its tokens
pub nests : (text : List ℕ) (items : List Item) → HasItems text items → Nests (split items).tokens 50 Anything
nests text items has =
    nests_map (split items).tokens 50 _ Anything (λ m h. tt) (nests_before text items has (split items).tokens [] (sym (append-nil (split items).tokens)))

-- the same for an input at a place where n brackets can be opened
nests_from : (w : Where) (n : ℕ) (text : List ℕ) (items : List Item) → IsCapacity w n → HasItemsFrom w text items → Nests (split items).tokens n Anything
nests_from w n text items capacity (ps, stop, tokenized, e) =
    let before : List ℕ = replicate w.offset 0 in
    let there : drop w.offset (before ++ text) ≡ text = drop_at before text w.offset (length-replicate w.offset 0) in
    let tokenized_items = split (items_of w ps stop) in
    let found : Nests tokenized_items.tokens n Anything = nests_map tokenized_items.tokens n _ Anything (λ m h. tt)
    (leaves_items (before ++ text) stop tokenized_items.last [] ps text tokenized w n capacity there tokenized_items.tokens (sym (append-nil tokenized_items.tokens)) refl) in
    subst (λ (is : List Item). Nests (split is).tokens n Anything) (sym e) found

past_inside : (s : Nesting) (n : ℕ) (P : ℕ → Type 0) → Past s n P → (m : ℕ) × P m
past_inside Unchanged n P h = (n, h)
past_inside Opens n P (m, e, h) = (m, h)
past_inside Closes n P h = (suc n, h)

nests-lexemes : (ts : List Token) (n : ℕ) (P : ℕ → Type 0) → Nests ts n P → All IsLexeme ts
nests-lexemes [] n P h = All-nil IsLexeme
nests-lexemes (t ∷ ts) n P (l, h) = let (m, more) = past_inside (nesting_of t) n _ h in All-cons IsLexeme t ts l (nests-lexemes ts m P more)

-- ---- the tokens of the rest of an input

abbrev left_open : List Item → ℕ
left_open items = (next_place items).closers + 50 - (next_place items).openers

nests_rest : (items : List Item) (text : List ℕ) → AreItemsOfRest items text → Nests (split items).tokens (left_open items) Anything
nests_rest items text (has, few) = nests_from (next_place items) (left_open items) text items (omega (arith, few)) has

pub rest_lexemes : (items : List Item) (text : List ℕ) → AreItemsOfRest items text → All IsLexeme (split items).tokens
rest_lexemes items text are = nests-lexemes _ _ Anything (nests_rest items text are)

past_more : (s : Nesting) (n k : ℕ) (P Q : ℕ → Type 0) → ((m : ℕ) → P m → Q (m + k)) → Past s n P → Past s (n + k) Q
past_more Unchanged n k P Q f h = f n h
past_more Opens n k P Q f (m, e, h) = (m + k, omega (arith, e), f m h)
past_more Closes n k P Q f h = subst Q (omega arith) (f (suc n) h)

-- if n brackets suffice as the limit, so do n + k
nests_more : (ts : List Token) (n k : ℕ) → Nests ts n Anything → Nests ts (n + k) Anything
nests_more [] n k h = tt
nests_more (t ∷ ts) n k (l, h) = (l, past_more (nesting_of t) n k _ _ (λ m. nests_more ts m k) h)

-- if no bracket was closed that was not opened, at most 50 are open among the tokens that are left
pub nests_open : (items : List Item) (text : List ℕ) → AreItemsOfRest items text → pos 0 ≤ℤ depth_of (next_place items)
    → Nests (split items).tokens 50 Anything
nests_open items text are none =
    let closed : (next_place items).closers ≤ (next_place items).openers = omega (arith, ints, none) in
    subst (λ (n : ℕ). Nests (split items).tokens n Anything) (omega (arith, closed, are.1))
    (nests_more (split items).tokens (left_open items) (50 - left_open items) (nests_rest items text are))

-- ---- from a list of tokens to its tree

nests_append : (ts us : List Token) (n : ℕ) (P : ℕ → Type 0) → Nests (ts ++ us) n P → Nests ts n (λ m. Nests us m P)
nests_append [] us n P h = h
nests_append (t ∷ ts) us n P (l, h) = (l, past_map (nesting_of t) n _ _ (λ m. nests_append ts us m P) h)

tree_map : (x : ParseTree) (n : ℕ) (P Q : ℕ → Type 0) → ((m : ℕ) → P m → Q m) → NestsTree x n P → NestsTree x n Q
tree_map Nothing n P Q f h = f n h
tree_map (Leaf t) n P Q f (l, h) = (l, past_map (nesting_of t) n P Q f h)
tree_map (Both x y) n P Q f h = tree_map x n _ _ (λ m. tree_map y m P Q f) h
tree_map (First x) n P Q f h = tree_map x n P Q f h
tree_map (Second y) n P Q f h = tree_map y n P Q f h
tree_map Stop n P Q f h = f n h
tree_map (More x y) n P Q f h = tree_map x n _ _ (λ m. tree_map y m P Q f) h
tree_map (Node k x) n P Q f h = tree_map x n P Q f h

-- what holds after the tokens of a tree holds after the tree
pub nests_tree : (x : ParseTree) (n : ℕ) (P : ℕ → Type 0) → Nests (leaves x) n P → NestsTree x n P
nests_tree Nothing n P h = h
nests_tree (Leaf t) n P h = h
nests_tree (Both x y) n P h = tree_map x n _ _ (λ m. nests_tree y m P) (nests_tree x n _ (nests_append (leaves x) (leaves y) n P h))
nests_tree (First x) n P h = nests_tree x n P h
nests_tree (Second y) n P h = nests_tree y n P h
nests_tree Stop n P h = h
nests_tree (More x y) n P h = tree_map x n _ _ (λ m. nests_tree y m P) (nests_tree x n _ (nests_append (leaves x) (leaves y) n P h))
nests_tree (Node k x) n P h = nests_tree x n P h

-- ---- what the class of a token states

abbrev pub class_nesting : Class → Nesting
class_nesting c = cond (within_any c openings) Opens (cond (within_any c closings) Closes Unchanged)

-- all tokens of the class have one nesting
abbrev pub has_nesting : Class → Bool
has_nesting c = (within_any c openings || apart_from c openings) && (within_any c closings || apart_from c closings)

-- a class whose tokens are all in a list of classes, or all outside it
in_any-class : (c : Class) (ds : List Class) (t : Token) → (within_any c ds || apart_from c ds) ≡ true → matches c t ≡ true → in_any ds t ≡ within_any c ds
in_any-class c ds t h m =
    elim (cases_Bool (within_any c ds)) [
      | inl w ↦ all_within-sound (c ∷ []) ds t (rw w refl) (rw m refl) ∙ sym w
      | inr w ↦ false_from_ne_true _ (apart_from-sound c ds t (apart_then w) m) ∙ sym w
    ]
  where
    apart_then : within_any c ds ≡ false → apart_from c ds ≡ true
    apart_then w = elim (or_cases (within_any c ds) (apart_from c ds) h) [ inl i ↦ absurd (both_ways _ w i) | inr i ↦ i ]

-- past a token of a class
pub past_class : (c : Class) (t : Token) (n : ℕ) (P : ℕ → Type 0) → has_nesting c ≡ true → matches c t ≡ true → Past (nesting_of t) n P
    → Past (class_nesting c) n P
past_class c t n P h m p =
    let (o, k) = and_parts (within_any c openings || apart_from c openings) _ h in
    subst (λ s. Past s n P) (ap₂ (λ (a b : Bool). cond a Opens (cond b Closes Unchanged)) (in_any-class c openings t o m) (in_any-class c closings t k m)) p

name-bytes : {bytes : List ℕ} {k : Kind} {s : Nesting} {rest : List ℕ} → IsLexicalElement bytes (TokenOf k s) rest → kind_number k ≡ kind_number Name → IsName bytes
name-bytes (name_token first more stop) e = (first, more)
name-bytes (punctuator_token is) e = absurd (omega (arith, e))
name-bytes spread_token e = absurd (omega (arith, e))
name-bytes (integer_token run ends) e = absurd (omega (arith, e))
name-bytes (float_token run ends) e = absurd (omega (arith, e))
name-bytes (string_token body units next) e = absurd (omega (arith, e))
name-bytes (block_string_token closes) e = absurd (omega (arith, e))

-- a token of a class of names is spelled as a name
pub class_name : (c : Class) (t : Token) → class_kind c ≡ kind_number Name → matches c t ≡ true → IsLexeme t → IsName t.spelling
class_name c t e m (k, s, rest, is, st) =
    let (same, spelled) = and_parts (class_kind c == t.kind) (takes_spelling c t.spelling) m in
    name-bytes st (sym is ∙ sym (eqb-true _ _ same) ∙ e)
