-- The outcome for a whole input.
use Rattle.std.proofs.Common.{◌≡◌, ℕ, ◌+◌, ◌-◌, List, [], ◌∷◌, ◌++◌, length, take, drop, Option, Some, refl, sym, ap, subst, ◌∙◌, arith, append-nil}
use Rattle.std.proofs.Common.{length-append}
use Rattle.std.proofs.lemmas.List.{take_at, drop_at}
use Rattle.graphql_core.specs.{Token, Class, Expr, ParseTree, Grammar, leaves, peek, Derives, Begins, Ends, Takes, Reason, Unexpected, Improper, Outcome, Done}
use Rattle.graphql_core.specs.{Fault, ReadsTo, unchecked, lax, IsExact, IsValue, Text, Ending, InputEnds, InvalidToken, Tree, Rejected, result_of, HasResult}
use Rattle.graphql_core.specs.{EndsAt, IsGrammarFaultAt, IsWhole}
use Rattle.graphql_core.proofs.grammar.FirstFault.{fits-unchecked, fits-lax}

pub some_peeked : {t : Token} (l : List Token) → peek l ≡ Some t → l ≡ [] → ⊥
some_peeked [] h i = cc
some_peeked (v ∷ l) h i = cc

pub rejected_is : (a b : Reason) (m n : ℕ) → Rejected a m ≡ Rejected b n → (a ≡ b) × (m ≡ n)
rejected_is a b m n h = (cc, cc)

module _ (g : Grammar) (e : Expr) (x : IsExact g e) where
  gives-tree : (ts : List Token) (ending : Ending) (y : ParseTree) (o : Outcome) → ReadsTo g e ts o
      → Tree y ≡ result_of (record { tokens = ts; ending = ending }) o → Derives g e ts y × (ending ≡ InputEnds)
  gives-tree ts ending y (Fault why us) r h = absurd cc
  gives-tree ts ending y (Done z (u ∷ us)) r h = absurd cc
  gives-tree ts InputEnds y (Done z []) r h =
      let s = x.sound ts [] z r in
      (subst (λ (w : ParseTree). Derives g e ts w) (sym (tree_is y z h)) (s.0.0, s.1 ∙ append-nil (leaves z)), refl)
    where
      tree_is : (a b : ParseTree) → Tree a ≡ Tree b → a ≡ b
      tree_is a b k = cc
  gives-tree ts InvalidToken y (Done z []) r h = absurd cc

  tree-given : (ts : List Token) (ending : Ending) (y : ParseTree) → Derives g e ts y → ending ≡ InputEnds
      → HasResult g e (record { tokens = ts; ending = ending }) (Tree y)
  tree-given ts InputEnds y d k = (Done y [], subst (λ (l : List Token). Takes g e l y []) (append-nil ts) (x.complete ts [] y d refl), refl)
  tree-given ts InvalidToken y d k = absurd cc

  record IsPlace (ts : List Token) (ending : Ending) (why : Reason) (place : ℕ) : Type 0 where
    pub front : List Token
    pub us : List Token
    pub parts : ts ≡ front ++ us
    pub is : place ≡ length ts - length us
    pub begins : Begins (unchecked g) e front
    pub ends : EndsAt g e front us ending
    pub value : (c : Class) → why ≡ Improper c → IsValue g e front c us
    pub unexpected : why ≡ Unexpected → EndsAt (lax g) e front us ending

  ends-at : (h : Grammar) (front us : List Token) (ending : Ending) → Ends h e front (peek us) → EndsAt h e front us ending
  ends-at h front [] InvalidToken n = tt
  ends-at h front [] InputEnds n = n
  ends-at h front (u ∷ us) InvalidToken n = n
  ends-at h front (u ∷ us) InputEnds n = n

  begun : (ts us : List Token) (z : ParseTree) → Takes g e ts z us → Begins (unchecked g) e (leaves z)
  begun ts us z r = (z, [], (fits-unchecked g (x.sound ts us z r).0.0, append-nil (leaves z)))

  too-long : (ts us : List Token) (u : Token) (z : ParseTree) → Takes g e ts z (u ∷ us) → Ends (lax g) e (leaves z) (Some u)
  too-long ts us u z r y more d k = some_peeked more k (x.longest ts (u ∷ us) z r y more d k).1

  ends-strict : (front : List Token) (item : Option Token) → Ends (lax g) e front item → Ends g e front item
  ends-strict front item h y more d k = h y more (fits-lax g d.0, d.1) k

  unexpected-value : (front us : List Token) (why : Reason) → why ≡ Unexpected → (c : Class) → why ≡ Improper c → IsValue g e front c us
  unexpected-value front us why h c k = absurd (other (sym h ∙ k))
    where
      other : Unexpected ≡ Improper c → ⊥
      other i = cc

  gives-place : (ts : List Token) (ending : Ending) (why : Reason) (place : ℕ) (o : Outcome) → ReadsTo g e ts o
      → Rejected why place ≡ result_of (record { tokens = ts; ending = ending }) o → IsPlace ts ending why place
  gives-place ts ending why place (Fault other us) r h =
      let f = (x.earliest ts us other r).fault in
      let w = rejected_is why other place (length ts - length us) h in
      record {
        front = f.front;
        us = us;
        parts = f.parts;
        is = w.1;
        begins = f.begins;
        ends = ends-at g f.front us ending f.ends;
        value = λ c i. f.value c (sym w.0 ∙ i);
        unexpected = λ i. ends-at (lax g) f.front us ending (f.unexpected (sym w.0 ∙ i));
      }
  gives-place ts ending why place (Done z (u ∷ us)) r h =
      let s = x.sound ts (u ∷ us) z r in
      let w = rejected_is why Unexpected place (length ts - length (u ∷ us)) h in
      let n = too-long ts us u z r in
      record {
        front = leaves z;
        us = u ∷ us;
        parts = s.1;
        is = w.1;
        begins = begun ts (u ∷ us) z r;
        ends = ends-at g (leaves z) (u ∷ us) ending (ends-strict (leaves z) (Some u) n);
        value = unexpected-value (leaves z) (u ∷ us) why w.0;
        unexpected = λ i. ends-at (lax g) (leaves z) (u ∷ us) ending n;
      }
  gives-place ts InputEnds why place (Done z []) r h = absurd cc
  gives-place ts InvalidToken why place (Done z []) r h =
      let s = x.sound ts [] z r in
      let w = rejected_is why Unexpected place (length ts) h in
      record {
        front = leaves z;
        us = [];
        parts = s.1;
        is = w.1 ∙ omega arith;
        begins = begun ts [] z r;
        ends = tt;
        value = unexpected-value (leaves z) [] why w.0;
        unexpected = λ i. tt;
      }

  place-taken : (t : Text) (why : Reason) (place : ℕ) → IsPlace t.tokens t.ending why place → IsGrammarFaultAt g e t why place
  place-taken t why place p =
      let ts = t.tokens in
      let n : length ts ≡ length p.front + length p.us = ap length p.parts ∙ length-append p.front p.us in
      let k : length p.front ≡ place = omega (arith, n, p.is) in
      let f : p.front ≡ take place ts = sym (ap (take place) p.parts ∙ take_at p.front p.us place k) in
      let d : p.us ≡ drop place ts = sym (ap (drop place) p.parts ∙ drop_at p.front p.us place k) in
      record {
        within = omega (arith, n, p.is);
        begins = subst (Begins (unchecked g) e) f p.begins;
        ends = ap₂-at g f d p.ends;
        value = λ c i. subst (λ (l : List Token). IsValue g e (take place ts) c l) d (subst (λ (l : List Token). IsValue g e l c p.us) f (p.value c i));
        unexpected = λ i. ap₂-at (lax g) f d (p.unexpected i);
      }
    where
      ap₂-at : (h : Grammar) {front us : List Token} → front ≡ take place t.tokens → us ≡ drop place t.tokens → EndsAt h e front us t.ending
          → EndsAt h e (take place t.tokens) (drop place t.tokens) t.ending
      ap₂-at h {us = us} f d q = subst (λ (l : List Token). EndsAt h e (take place t.tokens) l t.ending) d
          (subst (λ (l : List Token). EndsAt h e l us t.ending) f q)

  pub grammar_whole : IsWhole g e
  grammar_whole = record {
    tree = λ t y. (λ a. gives-tree t.tokens t.ending y a.0 a.1 a.2, λ d. tree-given t.tokens t.ending y d.0 d.1);
    wrong = λ t why place a. place-taken t why place (gives-place t.tokens t.ending why place a.0 a.1 a.2);
    has_result = λ t. let a = x.has_outcome t.tokens in (result_of t a.0, (a.0, a.1, refl));
    one = λ t a b h k. h.2 ∙ ap (result_of t) (x.one_outcome t.tokens h.0 k.0 h.1 k.1) ∙ sym k.2;
  }
