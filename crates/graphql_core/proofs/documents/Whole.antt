-- What a whole document is, from the theorems about every grammar.
use Rattle.std.proofs.Common.{◌≡◌, ℕ, ◌-◌, List, [], ◌∷◌, ◌++◌, length, drop, length-append, ◌≤◌, refl, sym, ap, subst, ◌∙◌, arith, Result, Ok, Err, IfErr}
use Rattle.std.proofs.lemmas.List.{drop_at}
use Rattle.graphql_core.specs.{Done, Fault as Stopped, Takes, takes_node, Reason, Unexpected, Improper, RejectedNode, Fails, fails_node, IsRejected, HasResult}
use Rattle.graphql_core.specs.{asked_once, fault_at, items_of_text, spending, tokens_then, LastIsError, Items, Last, LastIsEnd, IsEnd, IsAtEnd, FaultText, kept}
use Rattle.graphql_core.specs.{place_next, split, here, IsFaultFor, IsNextFault, ParseFailure, at, no_memory, max_length, Token, Class, AnyOf, Sym, ParseTree, Node}
use Rattle.graphql_core.specs.{leaves, written, change_at, StopsFor, CauseText, HasItems, start, items, reason_of, reading, factored_document_rule, Language}
use Rattle.graphql_core.specs.{IsDocumentOf, IsUnambiguous, AreUnambiguous, ending_of, numbered, Says, IsFirstError, IsErrorFor, IsErrorOf, ran_out, faulty}
use Rattle.graphql_core.specs.{Spent, IsReadable, IsDocument}
use Rattle.graphql_core.proofs.first_errors.{node_rejected_for}
use Rattle.graphql_core.specs.declared.helpers.read_error.ReadError.TheVariants.{Item, Memory, Integer, Float, Escape, Location}
use Rattle.graphql_core.proofs.lexical.{has_items, items_unique}
use Rattle.graphql_core.proofs.documents.ParseFailures.{by_fault, weaker_error}
use Rattle.std.specs.Result.{IsErrAnd}
use Rattle.graphql_core.specs.declared.helpers.read_error.ReadError.{ReadError}
use Rattle.graphql_core.proofs.documents.Readable.{exact, exact_lax, whole_texts, least, exact_reading, whole_reading}
use Rattle.graphql_core.proofs.documents.Faults.{ends, Lacks, Misses, no_integer, no_float, no_string, unexpected_here, no_value_here}
use Rattle.graphql_core.specs.grammar.Texts as texts
use Rattle.graphql_core.specs.theory.WholeTexts as results
use Rattle.graphql_core.specs.lexical.Items as items_of

ended : (l : Last) → ending_of l ≡ texts.InputEnds → IsEnd l
ended (LastIsEnd p) h = tt
ended (LastIsError p b) h = absurd cc

dropped : (front ts us : List Token) → ts ≡ front ++ us → drop (length ts - length us) ts ≡ us
dropped front ts us e = ap (drop (length ts - length us)) e ∙ drop_at front us (length ts - length us) (omega (arith, ap length e, length-append front us))

-- what holds of an error holds of the error that `?` propagates
pub exit : {D E : Type 0} (r : Result D E) (e : E) (P : E → Type 0) → IsErrAnd r (λ y. y ≡ e) → P e → IfErr r P
exit (Ok v) e P h p = absurd h
exit (Err y) e P h p = subst P (sym h) p

-- these are the items of the input, whatever stream they are read from
abbrev pub AreItems : List ℕ → Items → Type 0
AreItems text i = (items : List items_of.Item) → HasItems text items → (s : Spent) × (i ≡ spending s (split items))

-- those that are read from a stream of it
pub from_stream : (text : List ℕ) (i : Items) → ((items : List items_of.Item) → HasItems text items → i ≡ items_of_text items) → AreItems text i
from_stream text i are found has = (record { first_cuts = 0; stream = asked_once (record { items = found; cuts = 0 }) }, are found has)

-- those that are tokenized before they are read
pub tokenized_first : (text : List ℕ) → AreItems text (split (items start text))
tokenized_first text found has = ((split found).spent, ap split (items_unique text _ _ (has_items text) has))

-- what `kept` keeps includes the last item
last_kept : (i j : Items) → kept j ≡ kept i → j.last ≡ i.last
last_kept i j h = ap (λ (k : Last × Spent). k.0) h

module _ {D : Type 0} (l : Language D) (r : IsReadable l) where
  -- the result for i is an error at its item where j is left
  abbrev IsWrong : Reason → Items → Items → Type 0
  IsWrong why i j = HasResult (reading l) (Sym l.document) (numbered i) (results.Rejected why (length i.tokens - length j.tokens))

  -- a whole document that is taken passes its check
  node_taken : {ts us : List Token} {x : ParseTree} → Takes (reading l) (factored_document_rule l) ts x us
      → Takes (reading l) (Sym l.document) ts (Node l.document x) us
  node_taken {x = x} h = takes_node h (r.passes ((change_at l.changes l.document).to_written (written l.changes x)))

  -- ---- where the reader stops

  at_fault : (why : Reason) (i j : Items) → Fails (reading l) (factored_document_rule l) i.tokens why j.tokens → IsWrong why i j
  at_fault why i j h = (Stopped why j.tokens, fails_node h, refl)

  -- a reader that is done before the end
  at_rest : (i : Items) (us : List Token) (last : Last) (x : ParseTree) → Takes (reading l) (factored_document_rule l) i.tokens x us → last ≡ i.last
      → (IsAtEnd (tokens_then us last) → ⊥) → IsWrong Unexpected i (tokens_then us last)
  at_rest i (u ∷ us) last x h e other = (Done (Node l.document x) (u ∷ us), node_taken h, refl)
  at_rest i [] (LastIsEnd p) x h e other = absurd (other (refl, tt))
  at_rest i [] (LastIsError p b) x h e other = (Done (Node l.document x) [], node_taken h, bad (ending_of i.last) (ap ending_of e))
    where
      bad : (en : texts.Ending) → texts.InvalidToken ≡ en
          → results.Rejected Unexpected (length i.tokens - 0) ≡ results.result_of (record { tokens = i.tokens; ending = en }) (Done (Node l.document x) [])
      bad texts.InputEnds k = absurd cc
      bad texts.InvalidToken k = ap (λ (n : ℕ). results.Rejected Unexpected n) (omega arith)

  -- ---- the error there

  -- the result for i, at its item where j is left, is its first error
  module _ (i j : Items) (front : List Token) (parts : i.tokens ≡ front ++ j.tokens) (last : kept j ≡ kept i) (f : FaultText) where
    left : drop (length i.tokens - length j.tokens) i.tokens ≡ j.tokens
    left = dropped front i.tokens j.tokens parts

    unexpected_left : IsWrong Unexpected i j → f ≡ fault_at j → IsFirstError l i f
    unexpected_left a h = unexpected_here l r i j _ left (sym (last_kept i j last)) f ((least l r).wrong (numbered i) Unexpected _ a) h

    no_value_left : (c : Class) (k : CauseText) → Misses l r c k → IsWrong (Improper c) i j → f.cause ≡ k → f.place ≡ place_next j
        → IsFirstError l i f
    no_value_left c k lacks a cause place =
        no_value_here l r i j _ left (sym (last_kept i j last)) f c k lacks ((least l r).wrong (numbered i) (Improper c) _ a) cause place

  -- ---- no document is rejected

  none_wrong : (why : Reason) (i j : Items) (d : D) → IsWrong why i j → IsDocument l i d → ⊥
  none_wrong why i j d a (x, derived, at_end, means) =
      let c = (whole_texts l r).complete (numbered i) x derived (ends i.last at_end) in
      not_both c.0 ((whole_reading l r).one (numbered i) (results.Tree c.0) (results.Rejected why (length i.tokens - length j.tokens)) c.1 a)
    where
      not_both : (y : ParseTree) → results.Tree y ≡ results.Rejected why (length i.tokens - length j.tokens) → ⊥
      not_both y h = cc

  -- ---- what a reader's exits state

  pub out_of_memory_only : (i j : Items) (s : ReadError) (e : ParseFailure) (d : D) → StopsFor (reading l) (factored_document_rule l) i j (reason_of s)
      → IsFaultFor s j e → IsDocument l i d → e ≡ no_memory
  out_of_memory_only i j Memory e d h f k = f
  out_of_memory_only i j Item e d (h, same) f k = absurd (none_wrong Unexpected i j d (at_fault Unexpected i j h) k)
  out_of_memory_only i j Integer e d (h, same) f k = absurd (none_wrong _ i j d (at_fault _ i j h) k)
  out_of_memory_only i j Float e d (h, same) f k = absurd (none_wrong _ i j d (at_fault _ i j h) k)
  out_of_memory_only i j Escape e d (h, same) f k = absurd (none_wrong _ i j d (at_fault _ i j h) k)
  out_of_memory_only i j Location e d (h, same) f k = absurd (none_wrong _ i j d (at_fault _ i j h) k)

  -- a token of a kind has no value if it has none as a leaf of a value
  lacks_here : (k : ℕ) (c : CauseText) → Lacks (AnyOf k) c → Misses l r (AnyOf k) c
  lacks_here k c lacks t m h = r.lacks k t c (lacks t m (sym (r.good k t) ∙ h))

  -- a reader that stops for a token without a value
  valueless : (i j : Items) (leaf : Class) (c : CauseText) (e : ParseFailure) → Misses l r leaf c
      → Fails (reading l) (factored_document_rule l) i.tokens (Improper leaf) j.tokens
      → e ≡ at (here c j) → kept j ≡ kept i → IsErrorFor l i e
  valueless i j leaf c e misses h f last =
      let first = ((exact_reading l r).earliest i.tokens j.tokens _ (fails_node h)).fault in
      subst (IsErrorFor l i) (sym f) (no_value_left i j _ first.parts last (here c j) leaf c misses (at_fault _ i j h) refl refl)

  -- or for an unexpected token or end of input
  misplaced : (i j : Items) (e : ParseFailure) → Fails (reading l) (factored_document_rule l) i.tokens Unexpected j.tokens → IsNextFault j e → kept j ≡ kept i
      → IsErrorFor l i e
  misplaced i j e h f last =
      let first = ((exact_reading l r).earliest i.tokens j.tokens _ (fails_node h)).fault in
      weaker_error (λ k. k ≡ fault_at j) (IsFirstError l i) (λ k is. unexpected_left i j _ first.parts last k (at_fault _ i j h) is) e f

  pub least_stop : (i j : Items) (s : ReadError) (e : ParseFailure) → StopsFor (reading l) (factored_document_rule l) i j (reason_of s) → IsFaultFor s j e
      → IsErrorFor l i e
  least_stop i j Memory e last f = subst (IsErrorFor l i) (sym f) refl
  least_stop i j Item e (h, last) f = misplaced i j e h f last
  least_stop i j Integer e (h, last) f = valueless i j _ _ e (lacks_here _ _ no_integer) h f last
  least_stop i j Float e (h, last) f = valueless i j _ _ e (lacks_here _ _ no_float) h f last
  least_stop i j Escape e (h, last) f = valueless i j _ _ e (lacks_here _ _ no_string) h f last
  least_stop i j Location e (h, last) f = valueless i j _ _ e (λ t m none. r.location t none) h f last

  -- a reader that stops after a node that is rejected
  pub none_rejected : (i j : Items) (k : ℕ) (d : D) → Fails (reading l) (factored_document_rule l) i.tokens (RejectedNode k) j.tokens → IsDocument l i d → ⊥
  none_rejected i j k d h = none_wrong (RejectedNode k) i j d (at_fault (RejectedNode k) i j h)

  pub least_rejected : (i j : Items) (k : ℕ) (f : FaultText) (before : List Token) (x : ParseTree)
      → Fails (reading l) (factored_document_rule l) i.tokens (RejectedNode k) j.tokens
      → IsRejected (reading l) (factored_document_rule l) i.tokens k x before j.tokens → l.rejects (written l.changes (Node k x)) f → IsFirstError l i f
  least_rejected i j k f before x h rejected said =
      let n : ℕ = length i.tokens - length j.tokens in
      let (inside, is, node) = node_rejected_for l.grammar l.factored_rows l.changes r.each r.each_lax l.document i.tokens k x before j.tokens rejected in (
        n,
        RejectedNode k,
        (least l r).wrong (numbered i) (RejectedNode k) n (at_fault (RejectedNode k) i j h),
        (
          before,
          j.tokens,
          inside,
          node,
          omega (
            arith,
            ap length node.0,
            length-append before (leaves inside ++ j.tokens),
            length-append before (leaves inside),
            length-append (leaves inside) j.tokens,
          ),
          subst (λ (y : ParseTree). l.rejects y f) is said,
        ),
      )

  pub none_rest : (i j : Items) (d : D) (x : ParseTree) → Takes (reading l) (factored_document_rule l) i.tokens x j.tokens → kept j ≡ kept i → (IsAtEnd j → ⊥)
      → IsDocument l i d → ⊥
  none_rest i j d x h last other = none_wrong Unexpected i j d (at_rest i j.tokens j.last x h (last_kept i j last) other)

  pub least_left : (i j : Items) (e : ParseFailure) (x : ParseTree) → Takes (reading l) (factored_document_rule l) i.tokens x j.tokens
      → kept j ≡ kept i → (IsAtEnd j → ⊥) → IsNextFault j e → IsErrorFor l i e
  least_left i j e x h last other s =
      let first = (exact_reading l r).sound i.tokens j.tokens (Node l.document x) (node_taken h) in
      let wrong = at_rest i j.tokens j.last x h (last_kept i j last) other in
      weaker_error (λ k. k ≡ fault_at j) (IsFirstError l i) (λ k is. unexpected_left i j _ first.1 last k wrong is) e s

  -- ---- what is returned

  pub found : (i j : Items) (d : D) (x : ParseTree) → Takes (reading l) (factored_document_rule l) i.tokens x j.tokens → kept j ≡ kept i → IsAtEnd j
      → d ≡ l.means (written l.changes (Node l.document x)) → IsDocument l i d
  found i j d x h last at_end means =
      let e = sym (ap ending_of (sym (last_kept i j last)) ∙ ends j.last at_end.1) in
      let taken = node_taken (subst (λ (us : List Token). Takes (reading l) (factored_document_rule l) i.tokens x us) at_end.0 h) in
      let s = (whole_texts l r).sound (numbered i) (Node l.document x) (Done (Node l.document x) [], taken, result_at_end (ending_of i.last) e) in
      (written l.changes (Node l.document x), s.0, ended i.last s.1, means)
    where
      result_at_end : (en : texts.Ending) → texts.InputEnds ≡ en
          → results.Tree (Node l.document x) ≡ results.result_of (record { tokens = i.tokens; ending = en }) (Done (Node l.document x) [])
      result_at_end texts.InputEnds k = refl
      result_at_end texts.InvalidToken k = absurd cc

  pub one_document : (i : Items) (d e : D) → IsDocument l i d → IsDocument l i e → d ≡ e
  one_document i d e (x, derived, at_end, means) (y, derived', at_end', means') =
      means ∙ ap l.means ((exact l r).unambiguous i.tokens x y derived derived') ∙ sym means'

  pub unambiguous_for : (i : Items) → AreUnambiguous l i
  unambiguous_for i x y = (exact_lax l r).unambiguous i.tokens x y

  -- ---- of an input

  pub unambiguous : (text : List ℕ) → IsUnambiguous l text
  unambiguous text items x y h = unambiguous_for (split items) x y

-- ---- from the items of an input to the input

module _ {D : Type 0} (l : Language D) where
  -- the stream that items are read from is ignored
  said_spent : (why : Reason) (s : Spent) (i : Items) (n : ℕ) (f : FaultText) → Says l why (spending s i) n f → Says l why i n f
  said_spent Unexpected s i n f h = h
  said_spent (Improper c) s i n f h = h
  said_spent (RejectedNode k) s i n f h = h

  least_spent : (s : Spent) (i : Items) (f : FaultText) → IsFirstError l (spending s i) f → IsFirstError l i f
  least_spent s i f (n, why, least_one, said) = (n, why, least_one, said_spent why s i n f said)

  pub error_for : (s : Spent) (i : Items) (e : ParseFailure) → IsErrorFor l (spending s i) e → IsErrorFor l i e
  error_for s i = weaker_error (IsFirstError l (spending s i)) (IsFirstError l i) (least_spent s i)

  pub text_document : (text : List ℕ) (i : Items) (d : D) → AreItems text i → IsDocument l i d → IsDocumentOf l text d
  text_document text i d are h =
      let has = has_items text in
      (items start text, has, subst (λ (j : Items). IsDocument l j d) (are (items start text) has).1 h)

  pub items_document : (text : List ℕ) (i : Items) (d : D) → AreItems text i → IsDocumentOf l text d → IsDocument l i d
  items_document text i d are (items, has, h) = subst (λ (j : Items). IsDocument l j d) (sym (are items has).1) h

  pub parse_failure : (text : List ℕ) (i : Items) (e : ParseFailure) → length text ≤ max_length → AreItems text i → IsErrorFor l i e → IsErrorOf l text e
  parse_failure text i e bound are =
      let has = has_items text in
      let tokenized = items start text in
      let (s, is) = are tokenized has in
      by_fault (IsFirstError l i) (IsErrorOf l text) ran_out
      (λ f h. faulty f bound (tokenized, has, least_spent s (split tokenized) f (subst (λ (j : Items). IsFirstError l j f) is h))) e
