-- Inputs with the same tokens, ignoring positions, have errors with the same index, reason and cause.
use Rattle.std.specs.Int.RustNames.{FitsSigned}
use Rattle.std.proofs.Common.{◌≡◌, ℕ, zero, suc, Bool, true, false, ◌&&◌, List, [], ◌∷◌, ◌++◌, length, map, drop, refl, sym, ap, ◌∙◌, subst, w64}
use Rattle.std.proofs.lemmas.List.{map-append, length-map, drop-map}
use Rattle.graphql_core.specs.{Begins, Ends, Grammar, Fits, Expr, Then, Many, Sym, ParseTree, Node, leaves, peek, accepts, leads_here, leads_after, leads_turn}
use Rattle.graphql_core.specs.{leads_later, leads_before, leads_second, leads_first, Leads, leads_node, Text, IsRejected, IsFault, lexical_error, unexpected_item}
use Rattle.graphql_core.specs.{leaf_rejected, node_rejected, IsLeast, unexpected_token, CauseText, IsInQuotes, LastIsError, Items, Last, LastIsEnd, IsEnd, split}
use Rattle.graphql_core.specs.{fault_by, FaultText, Token, Class, matches, Reason, Unexpected, Improper, RejectedNode, lax, Item, unplaced, IsMinified}
use Rattle.graphql_core.specs.{IsFloatLiteral, int_of, numbered, from_item, HasNoValue, out_of_range, malformed, escaped_badly, Says, IsFirstError}
use Rattle.graphql_core.specs.{IsFirstErrorOf, Language, IsReadable}
use Rattle.graphql_core.proofs.lexical.{items_unique}
use Rattle.graphql_core.proofs.sources.{minified_tokens}
use Rattle.graphql_core.proofs.values.{SameTrees, left_tree, right_tree, SameLeaf, unplaced_leaf, matches_same, Alike}
use Rattle.graphql_core.proofs.values.{alike_split, Refilled, refilled_alike, DependsOnValues}
use Rattle.graphql_core.proofs.documents.Faults.{ends, one_least}
use Rattle.graphql_core.specs.strings.Strings as strings

-- ---- tokens that are equal ignoring positions

alike_both : (us ts vs ws : List Token) → Alike us ts → Alike vs ws → Alike (us ++ vs) (ts ++ ws)
alike_both us ts vs ws a b = map-append unplaced us vs ∙ (λ i. a i ++ b i) ∙ sym (map-append unplaced ts ws)

alike_length : (us ts : List Token) → Alike us ts → length us ≡ length ts
alike_length us ts h = sym (length-map us unplaced) ∙ ap length h ∙ length-map ts unplaced

alike_from : (n : ℕ) (us ts : List Token) → Alike us ts → Alike (from_item n us) (from_item n ts)
alike_from zero us ts h = h
alike_from (suc n) us ts h = sym (drop-map unplaced n us) ∙ ap (drop n) h ∙ drop-map unplaced n ts

none_alike : (ts us : List Token) → Alike us ts → us ≡ [] → ts ≡ []
none_alike [] us h none = refl
none_alike (t ∷ ts) [] h none = absurd cc
none_alike (t ∷ ts) (u ∷ us) h none = absurd cc

-- the first of such tokens
abbrev BeginsAlike : Token → List Token → List Token → Type 0
BeginsAlike t ts us = (v : Token) × (vs : List Token) × (us ≡ v ∷ vs) × (unplaced v ≡ unplaced t) × Alike vs ts

begins_with : (t : Token) (ts us : List Token) → Alike us (t ∷ ts) → BeginsAlike t ts us
begins_with t ts [] h = absurd cc
begins_with t ts (u ∷ us) h =
    let one : unplaced u ≡ unplaced t = cc in
    let same : Alike us ts = cc in
    (u, us, refl, one, same)

-- what begins with one of two equal items, with the other in its place
same_item : (rest others more : List Token) → Alike others rest → peek more ≡ peek others → (same : List Token) × Alike same more × (peek same ≡ peek rest)
same_item [] [] [] h k = ([], refl, refl)
same_item [] [] (v ∷ vs) h k = absurd cc
same_item [] (u ∷ us) more h k = absurd cc
same_item (t ∷ ts) [] more h k = absurd cc
same_item (t ∷ ts) (u ∷ us) [] h k = absurd cc
same_item (t ∷ ts) (u ∷ us) (v ∷ vs) h k =
    let one : unplaced t ≡ unplaced u = cc in
    let same : u ≡ v = cc in
    (t ∷ vs, (λ i. (one ∙ ap unplaced same) i ∷ map unplaced vs), refl)

-- ---- what the plain grammar derives

module _ (g : Grammar) where
  lax_refilled : {e : Expr} {x : ParseTree} → Fits (lax g) e x → (us : List Token) → Alike us (leaves x) → Refilled (lax g) e x us
  lax_refilled fits us h = refilled_alike (lax g) (λ c t u e. ap (λ (b : Bool). b && true) (matches_same c t u e)) (λ k s. refl) fits us h

  begins_alike : (e : Expr) (ts us : List Token) → Alike us ts → Begins (lax g) e ts → Begins (lax g) e us
  begins_alike e ts us h (x, more, (fits, is)) =
      let (s, left, fy, ly) = lax_refilled fits (us ++ more) (alike_both us ts more more h refl ∙ ap (map unplaced) is) in
      (right_tree s, more, (fy, ly))

  ends_alike : (e : Expr) (ts us rest others : List Token) → Alike us ts → Alike others rest → Ends (lax g) e ts (peek rest) → Ends (lax g) e us (peek others)
  ends_alike e ts us rest others h k none x more (fits, is) next =
      let (same, alike, here) = same_item rest others more k next in
      let (s, left, fy, ly) = lax_refilled fits (ts ++ same) (alike_both ts us same more (sym h) alike ∙ ap (map unplaced) is) in
      none (right_tree s) same (fy, ly) here

  leads_alike : {e d : Expr} {ts : List Token} → Leads (lax g) e ts d → (us : List Token) → Alike us ts → Leads (lax g) e us d
  leads_alike leads_here [] h = leads_here
  leads_alike leads_here (u ∷ us) h = absurd cc
  leads_alike (leads_before p f) us h = leads_before (leads_alike p us h) f
  leads_alike (leads_after {a = a} {b = b} {d = d} {ts = ts} {x = x} f p) us h =
      let (vs, ws, parts, one, two) = alike_split (leaves x) ts us h in
      let (s, left, fv, lv) = lax_refilled f vs one in
      subst (λ (l : List Token). Leads (lax g) (Then a b) l d) (sym (parts ∙ ap (λ (l : List Token). l ++ ws) lv)) (leads_after fv (leads_alike p ws two))
  leads_alike (leads_first p) us h = leads_first (leads_alike p us h)
  leads_alike (leads_second p) us h = leads_second (leads_alike p us h)
  leads_alike (leads_turn p) us h = leads_turn (leads_alike p us h)
  leads_alike (leads_later {a = a} {d = d} {ts = ts} {x = x} f p) us h =
      let (vs, ws, parts, one, two) = alike_split (leaves x) ts us h in
      let (s, left, fv, lv) = lax_refilled f vs one in
      subst (λ (l : List Token). Leads (lax g) (Many a) l d) (sym (parts ∙ ap (λ (l : List Token). l ++ ws) lv)) (leads_later fv (leads_alike p ws two))
  leads_alike (leads_node p) us h = leads_node (leads_alike p us h)

-- ---- errors

last_part : (a b c d : Bool) → a ≡ true → c ≡ true → (a && b) ≡ (c && d) → b ≡ d
last_part true b true d h k e = e
last_part false b c d h k e = absurd cc
last_part true b false d h k e = absurd cc

module _ (g : Grammar) (good : (c : Class) (t u : Token) → SameLeaf c t u → accepts g c u ≡ accepts g c t)
    (checks : (k : ℕ) (s : SameTrees) → g.check k (right_tree s) ≡ g.check k (left_tree s)) (e : Expr) where
  good_alike : (c : Class) (t u : Token) → unplaced u ≡ unplaced t → matches c t ≡ true → g.good c u ≡ g.good c t
  good_alike c t u one m =
      last_part (matches c u) (g.good c u) (matches c t) (g.good c t) (ap (matches c) one ∙ m) m (good c t u (unplaced_leaf c t u one))

  -- a node that is rejected between the tokens, and the same node of the other tokens
  abbrev RejectedAlike : List Token → ℕ → ParseTree → ℕ → Type 0
  RejectedAlike ts k x n =
      (before us : List Token) × (s : SameTrees) × (left_tree s ≡ x) × IsRejected g e ts k (right_tree s) before us
      × (length (before ++ leaves (right_tree s)) ≡ n)

  pub rejected_alike : (ts others : List Token) → Alike others ts → (k : ℕ) (x : ParseTree) (before us : List Token) → IsRejected g e ts k x before us
      → RejectedAlike others k x (length (before ++ leaves x))
  rejected_alike ts others h k x before us (parts, some, leads, fits, bad, stops) =
      let (front, rest, p, a, b) = alike_split before (leaves x ++ us) others (h ∙ ap (map unplaced) parts) in
      let (xs, after, q, c, d) = alike_split (leaves x) us rest b in
      let (s, left, fy, ly) = refilled_alike g good checks fits xs c in
      let y = right_tree s in
      let inside : Alike (leaves y) (leaves x) = ap (map unplaced) (sym ly) ∙ c in (
        front,
        after,
        s,
        left,
        (
          p ∙ ap (λ (l : List Token). front ++ l) (q ∙ ap (λ (l : List Token). l ++ after) ly),
          (λ none. some (none_alike (leaves x) (leaves y) inside none)),
          leads_alike g leads front a,
          fy,
          checks k s ∙ ap (g.check k) left ∙ bad,
          (λ u more at begins.
              let (t, ts, here, one, same) = begins_with u more us (sym d ∙ ap (map unplaced) at) in
              stops t ts here (begins_alike g (Sym k) (leaves y ++ u ∷ []) (leaves x ++ t ∷ [])
              (alike_both (leaves x) (leaves y) (t ∷ []) (u ∷ []) (sym inside) (λ i. one i ∷ [])) begins)),
        ),
        alike_length (front ++ leaves y) (before ++ leaves x) (alike_both front before (leaves y) (leaves x) a inside),
      )

  pub fault_alike : (t u : Text) → Alike u.tokens t.tokens → u.ending ≡ t.ending → {why : Reason} {n : ℕ} → IsFault g e t why n → IsFault g e u why n
  fault_alike t u h end (lexical_error bad) =
      subst (λ (n : ℕ). IsFault g e u Unexpected n) (ap suc (alike_length u.tokens t.tokens h)) (lexical_error (end ∙ bad))
  fault_alike t u h end (unexpected_item front us parts at begins none) =
      let (before, rest, p, a, b) = alike_split front us u.tokens (h ∙ ap (map unplaced) parts) in
      subst (λ (n : ℕ). IsFault g e u Unexpected n) (ap suc (alike_length before front a))
      (unexpected_item before rest p (λ last. end ∙ at (none_alike us rest b last)) (begins_alike g e front before a begins)
      (ends_alike g e front before us rest a b none))
  fault_alike t u h end (leaf_rejected front us v c parts leads m bad) =
      let (before, rest, p, a, b) = alike_split front (v ∷ us) u.tokens (h ∙ ap (map unplaced) parts) in
      let (w, ws, here, one, same) = begins_with v us rest b in
      subst (λ (n : ℕ). IsFault g e u (Improper c) n) (ap suc (alike_length before front a))
      (leaf_rejected before ws w c (p ∙ ap (λ (l : List Token). before ++ l) here) (leads_alike g leads before a) (ap (matches c) one ∙ m)
      (good_alike c v w one m ∙ bad))
  fault_alike t u h end (node_rejected before us k x rejected) =
      let (front, after, s, left, same, at) = rejected_alike t.tokens u.tokens h k x before us rejected in
      subst (λ (n : ℕ). IsFault g e u (RejectedNode k) n) at (node_rejected front after k (right_tree s) same)

  least_alike : (t u : Text) → Alike u.tokens t.tokens → u.ending ≡ t.ending → {why : Reason} {n : ℕ} → IsLeast g e t why n → IsLeast g e u why n
  least_alike t u h end (fault, least) = (fault_alike t u h end fault, λ other m x. least other m (fault_alike u t (sym h) (sym end) x))

-- ---- what errors state

-- the cause of an unexpected token or end of input
cause_alike : (us ts : List Token) (x y : Last) → Alike us ts → IsEnd x → IsEnd y → (fault_by us x).cause ≡ (fault_by ts y).cause
cause_alike [] [] (LastIsEnd p) (LastIsEnd q) h a b = refl
cause_alike [] [] (LastIsError p c) y h a b = absurd a
cause_alike [] [] (LastIsEnd p) (LastIsError q c) h a b = absurd b
cause_alike [] (t ∷ ts) x y h a b = absurd cc
cause_alike (u ∷ us) [] x y h a b = absurd cc
cause_alike (u ∷ us) (t ∷ ts) x y h a b =
    let one : unplaced u ≡ unplaced t = cc in
    ap (λ (v : Token). unexpected_token v.kind v.spelling) one

-- A token without a value has none at any position.
pub valueless_alike : (t u : Token) (k : CauseText) → unplaced u ≡ unplaced t → HasNoValue t k → HasNoValue u k
valueless_alike t u k one (out_of_range kind fits) =
    let same : u.spelling ≡ t.spelling = ap (λ (v : Token). v.spelling) one in
    out_of_range (ap (λ (v : Token). v.kind) one ∙ kind) (subst (λ (s : List ℕ). FitsSigned w64 (int_of s) → ⊥) (sym same) fits)
valueless_alike t u k one (malformed kind literal) =
    let same : u.spelling ≡ t.spelling = ap (λ (v : Token). v.spelling) one in
    malformed (ap (λ (v : Token). v.kind) one ∙ kind) (subst (λ (s : List ℕ). IsFloatLiteral s → ⊥) (sym same) literal)
valueless_alike t u k one (escaped_badly kind value) =
    let same : u.spelling ≡ t.spelling = ap (λ (v : Token). v.spelling) one in
    escaped_badly (ap (λ (v : Token). v.kind) one ∙ kind)
    (subst (λ (s : List ℕ). (body : List ℕ) → IsInQuotes s body → strings.HasNoStringValue body) (sym same) value)

-- Why a leaf or a node is rejected does not depend on positions. Only the position in the error does.
pub record RejectsAlike {D : Type 0} (l : Language D) : Type 0 where
  pub lacks : (c : Class) (t u : Token) (k : CauseText) → unplaced u ≡ unplaced t → l.lacks c t k → l.lacks c u k
  pub rejects : (k : ℕ) (s : SameTrees) (f : FaultText) → l.rejects (Node k (left_tree s)) f
      → (g : FaultText) × l.rejects (Node k (right_tree s)) g × (g.cause ≡ f.cause)

module _ {D : Type 0} (l : Language D) (p : DependsOnValues l) (q : RejectsAlike l) where
  says_alike : (why : Reason) (a b : Items) → Alike b.tokens a.tokens → IsEnd a.last → IsEnd b.last → (n : ℕ) (f : FaultText) → Says l why a n f
      → (g : FaultText) × Says l why b n g × (g.cause ≡ f.cause)
  says_alike Unexpected a b h end last n f is = (
    fault_by (from_item n b.tokens) b.last,
    refl,
    cause_alike (from_item n b.tokens) (from_item n a.tokens) b.last a.last (alike_from n b.tokens a.tokens h) last end
        ∙ ap (λ (k : FaultText). k.cause) (sym is),
  )
  says_alike (Improper c) a b h end last n f (t, rest, at, lacks, place) =
      let (u, us, here, one, same) = begins_with t rest (from_item n b.tokens) (alike_from n b.tokens a.tokens h ∙ ap (map unplaced) at) in
      (record { cause = f.cause; place = u.place }, (u, us, here, q.lacks c t u f.cause one lacks, refl), refl)
  says_alike (RejectedNode k) a b h end last n f (before, us, x, rejected, at, said) =
      let (front, after, s, left, same, here) = rejected_alike l.grammar p.accepts p.checks (Sym l.document) a.tokens b.tokens h k x before us rejected in
      let (g, stated, cause) = q.rejects k s f (subst (λ (y : ParseTree). l.rejects (Node k y) f) (sym left) said) in
      (g, (front, after, right_tree s, same, at ∙ sym here, stated), cause)

  pub least_fault_alike : (a b : Items) → Alike b.tokens a.tokens → IsEnd a.last → IsEnd b.last → (f : FaultText) → IsFirstError l a f
      → (g : FaultText) × IsFirstError l b g × (g.cause ≡ f.cause)
  least_fault_alike a b h end last f (n, why, least, said) =
      let (g, stated, cause) = says_alike why a b h end last n f said in (
        g,
        (n, why, least_alike l.grammar p.accepts p.checks (Sym l.document) (numbered a) (numbered b) h (ends b.last last ∙ sym (ends a.last end)) least, stated),
        cause,
      )

  -- a minified output and its source are rejected for one cause
  pub one_cause_alike : IsReadable l → (source text : List ℕ) (f g : FaultText) → IsMinified source text → IsFirstErrorOf l source f → IsFirstErrorOf l text g
      → f.cause ≡ g.cause
  one_cause_alike r source text f g (items, has, last, is) (mine, k, fault) other =
      let (others, h, alike, end) = minified_tokens source text (items, has, last, is) items has in
      let (found, least, cause) = least_fault_alike (split items) (split others) alike last end f
      (subst (λ (is : List Item). IsFirstError l (split is) f) (items_unique source mine items k has) fault) in
      sym cause ∙ ap (λ (x : FaultText). x.cause) (one_least l r text found g (others, h, least) other)
