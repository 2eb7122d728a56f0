-- If the next item begins no list of an expression, the expression fails there.
use Rattle.std.proofs.Common.{◌≡◌, true, false, List, [], ◌∷◌, ◌++◌, refl, sym, ap, subst, ◌∙◌}
use Rattle.std.proofs.lemmas.Bool.{false≢true}
use Rattle.graphql_core.specs.{Token, in_any, Expr, ParseTree, Grammar, leaves, peek, Begins, nullable, first, decides, is_ll1, has_samples, is_productive}
use Rattle.graphql_core.specs.{sees, Takes, Reason, Unexpected, Improper, RejectedNode, Fails, Outcome, Done, Fault, ReadsTo, unchecked, lax, IsFirstStop}
use Rattle.graphql_core.specs.{RejectsTokens}
use Rattle.graphql_core.proofs.grammar.Items.{append-empty}
use Rattle.graphql_core.proofs.grammar.Sound.{takes-fits, takes-leaves}
use Rattle.graphql_core.proofs.grammar.Complete.{fits-first, fits-nullable}
use Rattle.graphql_core.proofs.grammar.Total.{outcome_of}
use Rattle.graphql_core.proofs.grammar.Exact.{first_fault}

module _ (g : Grammar) (ok : is_ll1 g.rows ≡ true) (full : is_productive g ≡ true) (tokens : RejectsTokens g) (e : Expr)
    (d : decides g.rows e ≡ true) (f : has_samples g e ≡ true) (something : nullable g.rows e ≡ false)
    (ts : List Token) (nothing : sees (first g.rows e) (peek ts) ≡ false) where
  not_first : (t : Token) (us : List Token) → ts ≡ t ∷ us → in_any (first g.rows e) t ≡ true → ⊥
  not_first t us is begins = false≢true (sym nothing ∙ ap (λ vs. sees (first g.rows e) (peek vs)) is ∙ begins)

  not_taken : (x : ParseTree) (us : List Token) → Takes g e ts x us → ⊥
  not_taken x us h = go (leaves x) refl
    where
      go : (ls : List Token) → leaves x ≡ ls → ⊥
      go [] is = false≢true (sym something ∙ fits-nullable g ok (takes-fits g h) is)
      go (t ∷ ls) is = not_first t (ls ++ us) (takes-leaves g h ∙ ap (λ l. l ++ us) is) (fits-first g ok (takes-fits g h) t (ap peek is))

  -- an error is at the next item
  here_only : (front us : List Token) → ts ≡ front ++ us → Begins (unchecked g) e front → front ≡ []
  here_only [] us p b = refl
  here_only (t ∷ front) us p b = absurd (not_first t (front ++ us) p (fits-first (unchecked g) ok b.2.0 t (ap peek (sym b.2.1))))

  no_value : (us : List Token) (t : Token) (rest : List Token) → ts ≡ us → us ≡ t ∷ rest → Begins (lax g) e (t ∷ []) → ⊥
  no_value us t rest p is b = not_first t rest (p ∙ is) (fits-first (lax g) ok b.2.0 t (ap peek (sym b.2.1)))

  failed : (why : Reason) (us : List Token) → Fails g e ts why us → Fails g e ts Unexpected ts
  failed why us h =
      let s = first_fault g ok full e d f ts us why h in
      let none = here_only s.fault.front us s.fault.parts s.fault.begins in
      by_reason why us h s (s.fault.parts ∙ ap (λ l. l ++ us) none) none
    where
      by_reason : (why : Reason) (us : List Token) → Fails g e ts why us → (s : IsFirstStop g e ts why us) → ts ≡ us → s.fault.front ≡ []
          → Fails g e ts Unexpected ts
      by_reason Unexpected us h s same none = subst (λ (vs : List Token). Fails g e ts Unexpected vs) (sym same) h
      by_reason (Improper c) us h s same none =
          let v = s.fault.value c refl in
          absurd (no_value us v.token v.rest same v.is (subst (λ (l : List Token). Begins (lax g) e (l ++ v.token ∷ [])) none v.begins))
      by_reason (RejectedNode k) us h s same none =
          let r = s.rejected k refl in
          absurd (tokens k r.tree r.fits r.check (append-empty r.before (leaves r.tree) (sym r.parts ∙ none)).1)

  pub grammar_unseen : Fails g e ts Unexpected ts
  grammar_unseen =
      let a = outcome_of g ok e d ts in
      by a.0 a.1
    where
      by : (o : Outcome) → ReadsTo g e ts o → Fails g e ts Unexpected ts
      by (Done x us) h = absurd (not_taken x us h)
      by (Fault why us) h = failed why us h
