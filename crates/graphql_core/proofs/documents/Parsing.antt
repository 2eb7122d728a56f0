-- What functions that read a whole document return, from the results of their readers.
use Rattle.std.proofs.Common.{◌≡◌, ◌<◌, ◌≤◌, ◌↔◌, ℕ, Bool, true, false, List, [], ◌∷◌, length, Result, Ok, Err, IfOk, refl, sym, ap, subst, ◌∙◌, arith, IsTrue}
use Rattle.std.proofs.lemmas.Result.{IfOk-weaker, IfErr-weaker}
use Rattle.graphql_core.specs.{EndOfInput, Content, LexicalError, Stream, TokenContent, item_at, Where, Item, last_alone, asked_once, only_last, Items, Last}
use Rattle.graphql_core.specs.{Spent, IsEnd, IsAtEnd, split, items_of_stream, kept, IsNextFault, ParseFailure, at, max_length, too_long, past_bound, IsErrorFor}
use Rattle.graphql_core.specs.{IsErrorOf, ParseTree, Node, written, TakesSome, StopsFor, IsFaultFor, reason_of, reading, factored_document_rule, Language}
use Rattle.graphql_core.specs.{ReadsDocument, ParsesDocument, ParsesStream, Rejections, Reads, IsReadable, IsDocument}
use Rattle.std.proofs.lemmas.Bool.{false≢true}
use Rattle.graphql_core.specs.declared.helpers.read_error.ReadError.{ReadError}
use Rattle.graphql_core.specs.declared.common.read.node_error.NodeError.TheVariants.{RejectedNode}
use Rattle.graphql_core.proofs.documents.Faults.{one_at, one_each, no_fault_in, no_error}
use Rattle.graphql_core.proofs.documents.Whole.{AreItems, one_document, unambiguous_for, unambiguous, text_document, items_document, error_for, parse_failure}
use Rattle.graphql_core.proofs.documents.Whole.{found, out_of_memory_only, least_stop, none_rejected, least_rejected, none_rest, least_left}

module _ {D V : Type 0} (l : Language D) (r : IsReadable l) (view : V → D) (text : List ℕ) where
  -- an input of more than `MAX_LENGTH` bytes
  pub unread : (x : ParseFailure) → max_length < length text → x ≡ too_long → ParsesDocument l view text (Err x)
  unread x long is = record {
    sound = tt;
    complete = λ d bound h. absurd (omega (arith, long, bound));
    unambiguous = unambiguous l r text;
    first_error = subst (λ (y : ParseFailure). IsErrorOf l text y) (sym is) (past_bound long);
    too_long = λ h. ap Err is;
    one_error = one_each l r text;
    no_error = no_error l r text;
  }

  module _ (i : Items) (are : AreItems text i) (bound : length text ≤ max_length) where
    pub parsed : (x : Result V ParseFailure) → ReadsDocument l view i x → ParsesDocument l view text x
    parsed x h = record {
      sound = IfOk-weaker x _ _ (λ v. text_document l text i (view v) are) h.sound;
      complete = λ d b k. h.complete d (items_document l text i d are k);
      unambiguous = unambiguous l r text;
      first_error = IfErr-weaker x _ _ (λ e. parse_failure l text i e bound are) h.first_error;
      too_long = λ long. absurd (omega (arith, long, bound));
      one_error = one_each l r text;
      no_error = no_error l r text;
    }

-- ---- the rest of a stream

-- there are no tokens, only the last item
abbrev HasOnlyLast : List Item → Type 0
HasOnlyLast is = split (last_alone is) ≡ only_last (split is).last

alone_by : (c : Content) (w : Where) (is : List Item) → HasOnlyLast is → HasOnlyLast (item_at c w ∷ is)
alone_by (TokenContent k bytes) w is h = h
alone_by EndOfInput w is h = refl
alone_by (LexicalError b) w is h = refl

alone : (items : List Item) → HasOnlyLast items
alone [] = refl
alone (i ∷ is) = alone_by i.content i.place is (alone is)

-- The stream is `old` before and `new` after. Its source has i before, and j left after.
module _
    {D V : Type 0}
    (l : Language D)
    (r : IsReadable l)
    (view : V → D)
    (old new : Stream)
    (i j : Items)
    (from : i ≡ items_of_stream old)
    (last : kept j ≡ kept i)
    (more : j.spent.first_cuts ≤ new.cuts)
    (within : new.cuts ≤ j.spent.stream.cuts)
    (all : j.tokens ≡ [] → new ≡ j.spent.stream)
  where
    kept_of : kept j ≡ kept (items_of_stream old)
    kept_of = last ∙ ap kept from

    spent : j.spent ≡ record { first_cuts = old.cuts; stream = asked_once old }
    spent = ap (λ (k : Last × Spent). k.1) kept_of

    requests_grow : old.cuts ≤ new.cuts
    requests_grow = subst (λ (s : Spent). s.first_cuts ≤ new.cuts) spent more

    requests_within : new.cuts ≤ (asked_once old).cuts
    requests_within = subst (λ (s : Spent). new.cuts ≤ s.stream.cuts) spent within

    -- if all tokens are taken
    module _ (none : j.tokens ≡ []) where
      same : new ≡ asked_once old
      same = all none ∙ ap (λ (s : Spent). s.stream) spent

      left : split new.items ≡ only_last (split old.items).last
      left = ap (λ (s : Stream). split s.items) same ∙ alone old.items

    at_its_end : IsAtEnd j → IsAtEnd (split new.items)
    at_its_end (none, end) = subst IsAtEnd (sym (left none)) (refl, subst IsEnd (ap (λ (k : Last × Spent). k.0) kept_of) end)

    pub stream_parsed : (x : Result V ParseFailure) → ReadsDocument l view i x → IfOk x (λ v. IsAtEnd j) → ParsesStream l view old new x
    stream_parsed x h end =
        let known : ReadsDocument l view (items_of_stream old) x = subst (λ (k : Items). ReadsDocument l view k x) from h in
        record {
          sound = known.sound;
          complete = known.complete;
          unambiguous = unambiguous_for l r (split old.items);
          first_error = IfErr-weaker x _ _ (error_for l (record { first_cuts = old.cuts; stream = asked_once old }) (split old.items)) known.first_error;
          one_error = one_at l r (split old.items);
          no_error = λ d k f n. no_fault_in l r (split old.items) d f n k;
          requests_grow = requests_grow;
          requested_at_most_once = requests_within;
          all_requested = IfOk-weaker x _ _ (λ v e. same e.0) end;
          ended = IfOk-weaker x _ _ (λ v. at_its_end) end;
        }

-- ---- a source that a reader left at j

module _ {D V : Type 0} (l : Language D) (r : IsReadable l) (view : V → D) (i j : Items) where
  -- what a reader took denotes this document
  abbrev pub TakesAll : D → Type 0
  TakesAll d = TakesSome (reading l) (factored_document_rule l) i j (λ x. d ≡ l.means (written l.changes (Node l.document x)))

  pub read_whole : (v : V) (b : Bool) → TakesAll (view v) → IsTrue b ↔ IsAtEnd j → b ≡ true → ReadsDocument l view i (Ok v)
  read_whole v b (x, (takes, last), is) at_end ended =
      let derived : IsDocument l i (view v) = found l r i j (view v) x takes last (at_end.0 ended) is in
      record { sound = derived; complete = λ d k. one_document l r i (view v) d derived k; first_error = tt }

  pub read_left : (d : D) (e : ParseFailure) (b : Bool) → TakesAll d → IsTrue b ↔ IsAtEnd j → b ≡ false → IsNextFault j e → ReadsDocument l view i (Err e)
  read_left d e b (x, (takes, last), means) at_end before is =
      let other : IsAtEnd j → ⊥ = λ end. false≢true (sym before ∙ at_end.1 end) in
      record {
        sound = tt;
        complete = λ d k. absurd (none_rest l r i j d x takes last other k);
        first_error = least_left l r i j e x takes last other is;
      }

  pub read_stopped : (s : ReadError) (e : ParseFailure) → StopsFor (reading l) (factored_document_rule l) i j (reason_of s) → IsFaultFor s j e
      → ReadsDocument l view i (Err e)
  read_stopped s e stops is =
      record { sound = tt; complete = λ d k. out_of_memory_only l r i j s e d stops is k; first_error = least_stop l r i j s e stops is }

  -- or rejected a node
  pub read_rejected : {A R : Type 0} (w : Rejections R) (P : A → ParseTree → Type 0) (n : R) (e : ParseFailure)
      → Reads l w (factored_document_rule l) i j P (Err (RejectedNode n)) → e ≡ at (w.fault n) → ReadsDocument l view i (Err e)
  read_rejected w P n e h is = record {
    sound = tt;
    complete = λ d k. absurd (none_rejected l r i j (w.symbol n) d h.gives.0 k);
    first_error =
        let (before, x, rejected, said) = h.says in
        subst (IsErrorFor l i) (sym is) (least_rejected l r i j (w.symbol n) (w.fault n) before x h.gives.0 rejected said);
  }
