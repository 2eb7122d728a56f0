-- The reader takes exactly what the grammar derives.
use Rattle.std.proofs.Common.{◌≡◌, true, false, List, [], ◌++◌, refl, sym, ap, ap₂, subst, ◌∙◌}
use Rattle.graphql_core.specs.{Token, Expr, ParseTree, Grammar, leaves, peek, Derives, cont, decides, is_ll1, has_samples, is_productive, sees, Takes, Reason}
use Rattle.graphql_core.specs.{Unexpected, Fails, Outcome, Done, Fault, ReadsTo, lax, IsFirstStop, IsExact}
use Rattle.graphql_core.proofs.grammar.Sound.{takes-fits, takes-leaves}
use Rattle.graphql_core.proofs.grammar.Complete.{complete}
use Rattle.graphql_core.proofs.grammar.Deterministic.{same-take, take-or_fail, same-fail}
use Rattle.graphql_core.proofs.grammar.FirstFault.{stuck, stuck-ends, taken-ends, takes-lax, fails-lax}
use Rattle.graphql_core.proofs.grammar.Total.{outcome_of}

complete_at : (g : Grammar) → is_ll1 g.rows ≡ true → (e : Expr) → decides g.rows e ≡ true → (ts rest : List Token) (x : ParseTree) → Derives g e ts x
    → sees (cont g.rows e) (peek rest) ≡ false → Takes g e (ts ++ rest) x rest
complete_at g ok e d ts rest x h n = subst (λ (l : List Token). Takes g e (l ++ rest) x rest) (sym h.1) (complete g ok h.0 d rest n)

one_outcome : (g : Grammar) (e : Expr) (ts : List Token) (o p : Outcome) → ReadsTo g e ts o → ReadsTo g e ts p → o ≡ p
one_outcome g e ts (Done x us) (Done y vs) h k = let i = same-take g h k in ap₂ Done i.0 i.1
one_outcome g e ts (Done x us) (Fault why vs) h k = absurd (take-or_fail g h k)
one_outcome g e ts (Fault why us) (Done x vs) h k = absurd (take-or_fail g k h)
one_outcome g e ts (Fault why us) (Fault other vs) h k = let i = same-fail g h k in ap₂ Fault i.0 i.1

one_split : (g : Grammar) → is_ll1 g.rows ≡ true → (e : Expr) → decides g.rows e ≡ true → (ts us vs ws : List Token) (x y : ParseTree) → Derives g e ts x
    → Derives g e us y → ts ++ vs ≡ us ++ ws
    → sees (cont g.rows e) (peek vs) ≡ false → sees (cont g.rows e) (peek ws) ≡ false → (x ≡ y) × (ts ≡ us) × (vs ≡ ws)
one_split g ok e d ts us vs ws x y h k same n m =
    let i = same-take g (complete_at g ok e d ts vs x h n) (subst (λ (l : List Token). Takes g e l y ws) (sym same) (complete_at g ok e d us ws y k m)) in
    (i.0, h.1 ∙ ap leaves i.0 ∙ sym k.1, i.1)

pub first_fault : (g : Grammar) → is_ll1 g.rows ≡ true → is_productive g ≡ true → (e : Expr) → decides g.rows e ≡ true → has_samples g e ≡ true
    → (ts us : List Token) (why : Reason) → Fails g e ts why us → IsFirstStop g e ts why us
first_fault g ok full e d f ts us why h =
    let s = stuck g full h f in
    record {
      fault = record {
        front = s.front;
        parts = s.parts;
        begins = s.begins;
        ends = stuck-ends g ok e d s.front us why s.again;
        value = s.value;
        unexpected = λ i. stuck-ends (lax g) ok e d s.front us Unexpected
            (λ vs k. fails-lax g (subst (λ (w : Reason). Fails g e (s.front ++ vs) w vs) i (s.again vs k)));
      };
      rejected = s.rejected;
    }

pub grammar_exact : (g : Grammar) → is_ll1 g.rows ≡ true → is_productive g ≡ true → (e : Expr) → decides g.rows e ≡ true → has_samples g e ≡ true → IsExact g e
grammar_exact g ok full e d f = record {
  sound = λ ts us x h. ((takes-fits g h, refl), takes-leaves g h);
  longest = λ ts us x h. taken-ends (lax g) ok e d ts us x (takes-lax g h);
  complete = complete_at g ok e d;
  unambiguous = λ ts x y h k. (one_split g ok e d ts ts [] [] x y h k refl refl refl).0;
  one_split = one_split g ok e d;
  earliest = first_fault g ok full e d f;
  one_outcome = one_outcome g e;
  has_outcome = outcome_of g ok e d;
}
