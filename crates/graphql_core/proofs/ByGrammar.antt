-- What readers promise by the rules that they follow implies what is said by the written grammar.
use Rattle.std.proofs.Common.{◌≡◌, ℕ, zero, suc, ◌-◌, ◌<◌, Bool, true, ◌&&◌, ◌==◌, List, [], ◌∷◌, ◌++◌, length, Option, Some, None, Result, Ok, Err}
use Rattle.std.proofs.Common.{inl, inr, refl, sym, ap, subst, append_assoc, length-append, arith}
use Rattle.std.proofs.lemmas.Bool.{cases_Bool, and_parts}
use Rattle.std.proofs.lemmas.Bool.Decides.{nat_tests}
use Rattle.graphql_core.specs.{Token, Expr, Sym, ParseTree, Grammar, leaves, peek, Derives, lax, decides, is_ll1, is_tight, is_productive, has_samples, Takes}
use Rattle.graphql_core.specs.{Fails, Fault, Reason, StopsBefore, index_of, IsLeast, IsExact, IsExactFor, ReturnsFirstError, RejectsTokens, written, StopsFor}
use Rattle.graphql_core.specs.{GivesBy, Items, reading, Language, numbered, TakesExactly, StopsAtFirst, HaltsAtFirst, ReturnsDerived, IsReadable}
use Rattle.graphql_core.proofs.grammar.{grammar_exact}
use Rattle.graphql_core.proofs.rules.{exact_for}
use Rattle.graphql_core.proofs.first_errors.{grammar_least, least_for}

-- A reader by the grammar `h` reads for the written grammar `g`. `to` makes the written parse tree of one that is read.
pub record ReadsFor (g h : Grammar) (to : ParseTree → ParseTree) (e : Expr) : Type 0 where
  pub sound : (ts us : List Token) (x : ParseTree) → Takes h e ts x us → Derives g e (leaves x) (to x) × (ts ≡ leaves x ++ us)
  pub longest : (ts us : List Token) (x : ParseTree) → Takes h e ts x us → (y : ParseTree) (more : List Token) → Derives (lax g) e (leaves x ++ more) y
      → peek more ≡ peek us → more ≡ []
  pub parts : (ts us : List Token) (why : Reason) → Fails h e ts why us → (front : List Token) × (ts ≡ front ++ us)
  pub least : ReturnsFirstError g h e

module _ (g h : Grammar) (to : ParseTree → ParseTree) (e : Expr) (reads : ReadsFor g h to e) (old new : Items) where
  stops_before : (x : ParseTree) → Takes h e old.tokens x new.tokens → StopsBefore (lax g) e (leaves x) new.tokens
  stops_before x takes u rest is (y, more, derived) =
      let longer = subst (λ (ts : List Token). Derives (lax g) e ts y) (append_assoc (leaves x) (u ∷ []) more) derived in
      let none : u ∷ more ≡ [] = reads.longest old.tokens new.tokens x takes y (u ∷ more) longer (ap peek (sym is)) in
      absurd cc

  takes_exactly : (x : ParseTree) → Takes h e old.tokens x new.tokens → TakesExactly g e old new (leaves x) (to x)
  takes_exactly x takes = let (derives, parts) = reads.sound old.tokens new.tokens x takes in (parts, derives, stops_before x takes)

  stops_at_first : (why : Reason) → Fails h e old.tokens why new.tokens → (taken : List Token) × StopsAtFirst g e old new why taken
  stops_at_first why fails =
      let (front, parts) = reads.parts old.tokens new.tokens why fails in
      let count : length old.tokens - length new.tokens ≡ length front = omega (arith, ap length parts, length-append front new.tokens) in
      let first = reads.least.wrong (numbered old) why (length old.tokens - length new.tokens) (Fault why new.tokens, fails, refl) in
      (front, (parts, subst (λ (n : ℕ). IsLeast g e (numbered old) why (index_of why n)) count first))

  halts_at_first : (why : Option Reason) → StopsFor h e old new why → HaltsAtFirst g e old new why
  halts_at_first None same = tt
  halts_at_first (Some why) (fails, same) = stops_at_first why fails

  -- `P` relates a returned value to the written parse tree
  pub returns_derived : {A E : Type 0} (reason : E → Option Reason) (P : A → ParseTree → Type 0) (v : Result A E)
      → GivesBy reason h e old new (λ a x. P a (to x)) v → ReturnsDerived g e old new reason P v
  returns_derived reason P (Ok a) (x, (takes, same), is) = (leaves x, to x, takes_exactly x takes, is)
  returns_derived reason P (Err f) fails = halts_at_first (reason f) fails

-- ---- each symbol has a sample

abbrev pub sampled_below : Grammar → ℕ → Bool
sampled_below g zero = true
sampled_below g (suc n) = has_samples g (Sym n) && sampled_below g n

sampled_at : (g : Grammar) (n k : ℕ) → sampled_below g n ≡ true → k < n → has_samples g (Sym k) ≡ true
sampled_at g zero k samples below = absurd (omega arith)
sampled_at g (suc n) k samples below = elim (cases_Bool (k == n)) [
  | inl same ↦
      let is : n ≡ k = grind (arith, nat_tests) in
      subst (λ (j : ℕ). has_samples g (Sym j) ≡ true) is (and_parts (has_samples g (Sym n)) (sampled_below g n) samples).0
  | inr other ↦
      let less : k < n = grind (arith, nat_tests) in
      sampled_at g n k (and_parts (has_samples g (Sym n)) (sampled_below g n) samples).1 less
]

-- ---- readers of symbols

-- a grammar that is read as it is written
reads_itself : (g : Grammar) → is_ll1 g.rows ≡ true → is_tight g.rows ≡ true → is_productive g ≡ true → RejectsTokens g → (e : Expr)
    → decides g.rows e ≡ true → has_samples g e ≡ true → ReadsFor g g (λ x. x) e
reads_itself g ok tight full tokens e d s =
    let exact : IsExact g e = grammar_exact g ok full e d s in
    record {
      sound = exact.sound;
      longest = λ ts us x takes y more derives next. (exact.longest ts us x takes y more derives next).1;
      parts = λ ts us why fails. let first = (exact.earliest ts us why fails).fault in (first.front, first.parts);
      least = grammar_least g ok full tight e d s tokens;
    }

pub symbol_derived : (g : Grammar) → is_ll1 g.rows ≡ true → is_tight g.rows ≡ true → is_productive g ≡ true → RejectsTokens g
    → (n : ℕ) → sampled_below g n ≡ true → (k : ℕ) → k < n → (old new : Items) → {A E : Type 0} (reason : E → Option Reason)
    (P : A → ParseTree → Type 0) (v : Result A E) → GivesBy reason g (Sym k) old new P v → ReturnsDerived g (Sym k) old new reason P v
symbol_derived g ok tight full tokens n samples k below =
    returns_derived g g (λ x. x) (Sym k) (reads_itself g ok tight full tokens (Sym k) refl (sampled_at g n k samples below))

-- a language, which is read by its factored rules
reads_language : {D : Type 0} (l : Language D) → IsReadable l → (e : Expr) → decides l.factored_rows e ≡ true → has_samples (reading l) e ≡ true
    → ReadsFor l.grammar (reading l) (written l.changes) e
reads_language l r e d s =
    let exact : IsExactFor l.grammar l.factored_rows l.changes e =
    exact_for l.grammar l.factored_rows l.changes r.each r.each_unchecked r.each_lax r.ll1 r.productive e d s in
    record {
      sound = exact.sound;
      longest = λ ts us x takes y more derives next. (exact.longest ts us x takes y more derives next).1;
      parts = λ ts us why fails. let first = exact.earliest ts us why fails in (first.front, first.parts);
      least = least_for l.grammar l.factored_rows l.changes r.each r.each_lax r.ll1 r.tight r.productive r.rejects_tokens e d s;
    }

pub symbol_derived_for : {D : Type 0} (l : Language D) → IsReadable l → (n : ℕ) → sampled_below (reading l) n ≡ true → (k : ℕ) → k < n
    → (old new : Items) → {A E : Type 0} (reason : E → Option Reason) (P : A → ParseTree → Type 0) (v : Result A E)
    → GivesBy reason (reading l) (Sym k) old new (λ a x. P a (written l.changes x)) v → ReturnsDerived l.grammar (Sym k) old new reason P v
symbol_derived_for l r n samples k below =
    returns_derived l.grammar (reading l) (written l.changes) (Sym k) (reads_language l r (Sym k) refl (sampled_at (reading l) n k samples below))
