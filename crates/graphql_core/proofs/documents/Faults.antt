-- What an error states about the token or end of input at its index, and facts about the errors of an input.
use Rattle.std.proofs.Common.{◌≡◌, ℕ, suc, true, false, List, [], ◌∷◌, ◌++◌, length, take, drop, Option, Some, None, is_some, refl, sym, ap, subst, ◌∙◌}
use Rattle.std.proofs.Common.{le_refl, arith}
use Rattle.std.proofs.lemmas.List.{drop_at, drop_all}
use Rattle.std.proofs.lemmas.Bool.{both_ways, and_parts}
use Rattle.graphql_core.specs.{Begins, Grammar, Sym, ParseTree, Node, unchecked, Reason, Unexpected, Improper, RejectedNode, lax, HasResult, WholeResult, IsFault, Language}
use Rattle.graphql_core.specs.{lexical_error, leaf_rejected, node_rejected, index_of, unexpected_item, IsLeast, Content, TokenContent, item_at, Where, Item, fault_at}
use Rattle.graphql_core.specs.{LastIsError, Items, Last, LastIsEnd, IsEnd, FaultText, fault_by, place_next, split, int_out_of_range, malformed_float}
use Rattle.graphql_core.specs.{bad_escape, CauseText, is_unexpected, no_value, ending_of, numbered, HasNoValue, out_of_range, malformed, escaped_badly, Says}
use Rattle.graphql_core.specs.{IsFaultAt, IsFirstError, NoneGoesOn, IsFaultOf, IsFirstErrorOf, HasOneFaultAt, HasOneFaultEach, HasNoFault, IsFaultAfter}
use Rattle.graphql_core.specs.{StopsAllDocuments, StopsAllDocumentsOf, unexpected, Token, Class, AnyOf, matches, any, is_good, unquoted, without_ends, reading}
use Rattle.graphql_core.specs.{IsDocument, IsReadable}
use Rattle.graphql_core.proofs.first_errors.{one_node_for}
use Rattle.std.proofs.lemmas.Bool.Decides.{nat_tests}
use Rattle.graphql_core.proofs.lexical.{items_unique}
use Rattle.graphql_core.proofs.strings.{literal_is_float, has_unquoted, in_range, whole_exponent, in_quotes}
use Rattle.graphql_core.specs.declared.tokenizer.token.Kind.TheVariants.{IntValue, FloatValue, StringValue}
use Rattle.graphql_core.proofs.documents.Readable.{whole_texts, least, whole_reading}
use Rattle.graphql_core.specs.grammar.Texts as texts
use Rattle.graphql_core.specs.theory.WholeTexts as results
use Rattle.graphql_core.specs.lexical.Items as items_of
use Rattle.graphql_core.proofs.grammar.OneClass.{head_is}

pub ends : (l : Last) → IsEnd l → ending_of l ≡ texts.InputEnds
ends (LastIsEnd p) h = refl
ends (LastIsError p b) h = absurd h

-- ---- tokens without a value

kind_is : (k : ℕ) (t : Token) → matches (AnyOf k) t ≡ true → t.kind ≡ k
kind_is k t h = let s = (and_parts _ true h).0 in grind (arith, nat_tests)

pub none_there : {A : Type 0} (o : Option A) → is_some o ≡ false → o ≡ None
none_there None h = refl
none_there (Some x) h = absurd cc

-- each token of this class that is not good as a leaf of a value has no value, for this cause
abbrev pub Lacks : Class → CauseText → Type 0
Lacks c k = (t : Token) → matches c t ≡ true → is_good c t ≡ false → HasNoValue t k

pub no_integer : Lacks (any IntValue) int_out_of_range
no_integer t m h = out_of_range (kind_is _ t m) (λ fits. both_ways _ h ((in_range t.spelling).1 fits))

pub no_float : Lacks (any FloatValue) malformed_float
no_float t m h = malformed (kind_is _ t m) (λ literal. both_ways _ h ((whole_exponent t.spelling (literal_is_float t.spelling literal)).1 literal))

pub no_string : Lacks (any StringValue) bad_escape
no_string t m h = escaped_badly (kind_is _ t m) (λ body is v value.
    let there : unquoted (without_ends 1 t.spelling) ≡ Some v = ap unquoted (in_quotes t.spelling body is) ∙ (has_unquoted body v).1 value in
    let none = none_there (unquoted (without_ends 1 t.spelling)) h in
    cc)

-- an invalid token is not an unexpected token
abbrev NotUnexpected : List Item → Type 0
NotUnexpected is = ending_of (split is).last ≡ texts.InvalidToken → is_unexpected (fault_by [] (split is).last).cause ≡ false

last_not_by : (c : Content) (w : Where) (is : List Item) → NotUnexpected is → NotUnexpected (item_at c w ∷ is)
last_not_by (TokenContent k bytes) w is h bad = h bad
last_not_by items_of.EndOfInput w is h bad = absurd cc
last_not_by (items_of.LexicalError b) w is h bad = refl

last_not : (items : List Item) → NotUnexpected items
last_not [] bad = absurd cc
last_not (i ∷ is) bad = last_not_by i.content i.place is (last_not is) bad

-- nor is a token without a value
pub valueless_not : (t : Token) (k : CauseText) → HasNoValue t k → is_unexpected k ≡ false
valueless_not t k (out_of_range e r) = refl
valueless_not t k (malformed e r) = refl
valueless_not t k (escaped_badly e r) = refl

module _ {D : Type 0} (l : Language D) (r : IsReadable l) where
  -- ---- the error where a reader stops

  -- the token that is rejected as a leaf, and the index of its error
  abbrev RejectedLeaf : texts.Text → Class → ℕ → Type 0
  RejectedLeaf t c n =
      (u : Token) × (us : List Token) × (front : List Token) × (t.tokens ≡ front ++ u ∷ us) × (n ≡ suc (length front)) × (matches c u ≡ true)
      × (l.grammar.good c u ≡ false)

  rejected_leaf : (t : texts.Text) (c : Class) (n : ℕ) → IsFault l.grammar (Sym l.document) t (Improper c) n → RejectedLeaf t c n
  rejected_leaf t c _ (leaf_rejected front us u _ p leads m g) = (u, us, front, p, refl, m, g)

  -- each token of this class that is not good is rejected for this cause
  abbrev pub Misses : Class → CauseText → Type 0
  Misses c k = (t : Token) → matches c t ≡ true → l.grammar.good c t ≡ false → l.lacks c t k

  -- j is i after n tokens
  module _ (i j : Items) (n : ℕ) (later : drop n i.tokens ≡ j.tokens) (last : i.last ≡ j.last) (f : FaultText) where
    pub unexpected_here : IsLeast l.grammar (Sym l.document) (numbered i) Unexpected (suc n) → f ≡ fault_at j → IsFirstError l i f
    unexpected_here w h = (suc n, Unexpected, w, h ∙ sym (λ k. fault_by (later k) (last k)))

    pub no_value_here : (c : Class) (k : CauseText) → Misses c k → IsLeast l.grammar (Sym l.document) (numbered i) (Improper c) (suc n)
        → f.cause ≡ k → f.place ≡ place_next j → IsFirstError l i f
    no_value_here c k lacks w cause place =
        let (u, us, front, p, m, is, not_good) = rejected_leaf (numbered i) c (suc n) w.0 in
        let here : drop n i.tokens ≡ u ∷ us = ap (drop n) p ∙ drop_at front (u ∷ us) n (omega (arith, m)) in
        let at : place_next j ≡ u.place = ap (λ ts. (fault_by ts j.last).place) (sym later ∙ here) in
        (suc n, Improper c, w, (u, us, here, subst (l.lacks c u) (sym cause) (lacks u is not_good), place ∙ at))

  -- ---- at most one error at each index

  one_said : (why : Reason) (i : Items) (n : ℕ) (f g : FaultText) → IsFault l.grammar (Sym l.document) (numbered i) why n
      → Says l why i n f → Says l why i n g → f ≡ g
  one_said Unexpected i n f g x h k = h ∙ sym k
  one_said (Improper c) i n f g x (t, ts, p, lacks, at) (u, us, q, lacks', at') =
      let same : u ≡ t = sym (head_is t u ts us (sym p ∙ q)) in
      let cause_is = r.one_cause c t f.cause g.cause lacks (subst (λ (v : Token). l.lacks c v g.cause) same lacks') in
      let place_is = at ∙ ap (λ (v : Token). v.place) (sym same) ∙ sym at' in
      λ k. record { cause = cause_is k; place = place_is k }
  one_said (RejectedNode k) i n f g fault (before, us, x, rejected, at, said) (before', us', y, rejected', at', said') =
      let same = one_node_for l.grammar l.factored_rows l.changes r.each r.each_lax r.ll1 r.tight r.productive (Sym l.document) r.decides r.samples
      i.tokens before us before' us' k x y rejected rejected' (sym at ∙ at') in
      r.one_said (Node k x) f g said (subst (λ (z : ParseTree). l.rejects (Node k z) g) (sym same) said')

  pub one_at : (i : Items) → HasOneFaultAt l i
  one_at i f g n (why, x, said) (other, y, said') =
      let reason = (least l r).one_index (numbered i) why other n x y in
      one_said why i n f g x said (subst (λ (q : Reason). Says l q i n g) (sym reason) said')

  pub one_each : (text : List ℕ) → HasOneFaultEach l text
  one_each text f g n (items, has, fault) (others, has', other) =
      one_at (split items) f g n fault (subst (λ (is : List Item). IsFaultAt l (split is) g n) (items_unique text others items has' has) other)

  pub one_least : (text : List ℕ) (f g : FaultText) → IsFirstErrorOf l text f → IsFirstErrorOf l text g → f ≡ g
  one_least text f g (items, has, (n, why, x, said)) (others, has', (m, other, y, said')) =
      let same = subst (λ (is : List Item). IsLeast l.grammar (Sym l.document) (numbered (split is)) other m) (items_unique text others items has' has) y in
      let at = ((least l r).one (numbered (split items)) why other n m x same).1 in
      one_each text f g n (items, has, (why, x.0, said))
      (subst (λ (k : ℕ). IsFaultOf l text g k) (sym at) (others, has', (other, y.0, said')))

  -- ---- documents

  pub no_fault_in : (i : Items) (d : D) (f : FaultText) (n : ℕ) → IsDocument l i d → IsFaultAt l i f n → ⊥
  no_fault_in i d f n (x, derived, at_end, means) (why, fault, said) =
      let c = (whole_texts l r).complete (numbered i) x derived (ends i.last at_end) in
      (least l r).tree (numbered i) c.0 c.1 why n fault

  pub no_error : (text : List ℕ) (d : D) → HasNoFault l text d
  no_error text d (items, has, document) f n (others, has', fault) =
      no_fault_in (split items) d f n document (subst (λ (is : List Item). IsFaultAt l (split is) f n) (items_unique text others items has' has) fault)

  -- ---- an unexpected token or end of input

  -- if no other error has the cause of an unexpected token
  module _
      (leaves_not : (c : Class) (t : Token) (k : CauseText) → l.lacks c t k → is_unexpected k ≡ false)
      (nodes_not : (node : ParseTree) (f : FaultText) → l.rejects node f → is_unexpected f.cause ≡ false)
    where
      none_at : (items : List Item) (f : FaultText) (n : ℕ) → is_unexpected f.cause ≡ true
          → IsFault l.grammar (Sym l.document) (numbered (split items)) Unexpected n → Says l Unexpected (split items) n f → NoneGoesOn l (split items) f
      none_at items f _ cause (lexical_error bad) said =
          let none : drop (length (split items).tokens) (split items).tokens ≡ [] = drop_all (length (split items).tokens) _ (le_refl _) in
          let at_last : f ≡ fault_by [] (split items).last = said ∙ ap (λ (ts : List Token). fault_by ts (split items).last) none in
          absurd (both_ways _ (ap (λ (g : FaultText). is_unexpected g.cause) at_last ∙ last_not items bad) cause)
      none_at items f _ cause (unexpected_item front us parts end begins stops) said =
          let here : drop (length front) (split items).tokens ≡ us = ap (drop (length front)) parts ∙ drop_at front us (length front) refl in
          (front, us, parts, said ∙ ap (λ (ts : List Token). fault_by ts (split items).last) here, begins, stops)

      none_by : (items : List Item) (f : FaultText) (n : ℕ) (why : Reason) → is_unexpected f.cause ≡ true
          → IsFault l.grammar (Sym l.document) (numbered (split items)) why n → Says l why (split items) n f → NoneGoesOn l (split items) f
      none_by items f n Unexpected cause fault said = none_at items f n cause fault said
      none_by items f n (Improper c) cause fault (t, rest, is, lacks, at) = absurd (both_ways _ (leaves_not c t f.cause lacks) cause)
      none_by items f n (RejectedNode k) cause fault (before, us, x, rejected, at, said) = absurd (both_ways _ (nodes_not (Node k x) f said) cause)

      pub none_goes_on : (items : List Item) (f : FaultText) → IsFirstError l (split items) f → is_unexpected f.cause ≡ true → NoneGoesOn l (split items) f
      none_goes_on items f (n, why, least_one, said) cause = none_by items f n why cause least_one.0 said

  -- ---- the error of lowest index is the first error, if no node is rejected

  module _ (no_checks : unchecked l.grammar ≡ l.grammar) where
    none_rejected : (t : texts.Text) (k n : ℕ) → IsFault l.grammar (Sym l.document) t (RejectedNode k) n → ⊥
    none_rejected t _ _ (node_rejected before us k x (p, nonempty, leads, f, c, n)) =
        let passes : true ≡ l.grammar.check k x = ap (λ (g : Grammar). g.check k x) no_checks in
        absurd (cc (passes, c))

    module _ (i : Items) (f : FaultText) (place : ℕ) where
      -- the error after the first items, if the theory rejects at that place for this reason
      after_first : (why : Reason) → results.IsGrammarFaultAt l.grammar (Sym l.document) (numbered i) why place
          → IsFault l.grammar (Sym l.document) (numbered i) why (index_of why place) → Says l why i (index_of why place) f
          → IsFaultAfter l (take place i.tokens) (drop place i.tokens) i.last f
      after_first Unexpected w x said =
          subst (IsFaultAfter l (take place i.tokens) (drop place i.tokens) i.last) (sym said) (unexpected (w.unexpected refl))
      after_first (Improper c) w x (t, ts, is, lacks, at) =
          let v = w.value c refl in
          let same : v.token ≡ t = sym (head_is t v.token ts v.rest (sym is ∙ v.is)) in
          let begins = subst (λ (u : Token). Begins (lax l.grammar) (Sym l.document) (take place i.tokens ++ u ∷ [])) same v.begins in
          let found : IsFaultAfter l (take place i.tokens) (t ∷ ts) i.last (record { cause = f.cause; place = t.place }) = no_value lacks begins in
          let here = subst (λ (us : List Token). IsFaultAfter l (take place i.tokens) us i.last (record { cause = f.cause; place = t.place }))
          (sym is) found in
          subst (IsFaultAfter l (take place i.tokens) (drop place i.tokens) i.last) (λ k. record { cause = f.cause; place = sym at k }) here
      after_first (RejectedNode k) w x said = absurd (none_rejected (numbered i) k place x)

    first_by : (i : Items) (f : FaultText) (n : ℕ) (why : Reason) → IsLeast l.grammar (Sym l.document) (numbered i) why n → Says l why i n f
        → (a : WholeResult) → HasResult (reading l) (Sym l.document) (numbered i) a → StopsAllDocuments l i f
    first_by i f n why w said (results.Tree x) a = absurd ((least l r).tree (numbered i) x a why n w.0)
    first_by i f n why w said (results.Rejected other place) a =
        let is = (least l r).wrong (numbered i) other place a in
        let (reason, at) = (least l r).one (numbered i) why other n (index_of other place) w is in
        let x = (whole_texts l r).wrong (numbered i) other place a in
        let said_here = subst (λ (k : ℕ). Says l why i k f) at said in
        let said_other = subst (λ (q : Reason). Says l q i (index_of other place) f) reason said_here in
        let begins = subst (λ (g : Grammar). Begins g (Sym l.document) (take place i.tokens)) no_checks x.begins in
        (place, x.within, begins, x.ends, after_first i f place other x is.0 said_other)

    pub least_is_first : (text : List ℕ) (f : FaultText) → IsFirstErrorOf l text f → StopsAllDocumentsOf l text f
    least_is_first text f (items, has, (n, why, w, said)) =
        let a = (whole_reading l r).has_result (numbered (split items)) in
        (items, has, first_by (split items) f n why w said a.0 a.1)
