-- Lists between an opener and a closer.
use Rattle.std.proofs.Common.{◌≡◌, ℕ, true, false, List, [], ◌∷◌, ap, subst, ◌∙◌}
use Rattle.graphql_core.specs.{Grammar, Expr, One, Then, Sym, ParseTree, Leaf, Both, Stop, More, Node, some_of, row}
use Rattle.graphql_core.specs.{Token, Class, nullable, first, Items, TakesToken, IsList}
use Rattle.graphql_core.proofs.readers.Optional.{BegunBy}
use Rattle.graphql_core.proofs.readers.Reading.{each_means}
use Rattle.graphql_core.proofs.readers.Steps.{Leads, begun, took, past}

-- A list of which every part is computed. n is what the elements after the first denote.
pub is_list : {A : Type 0} {g : Grammar} {o c : Class} {a : Expr} {f : ParseTree → A} {k : ℕ} {m : ParseTree → List A} (n : ParseTree → List A)
    → (row g k).rule ≡ Then (One o) (Then (some_of a) (One c)) → ((x : ParseTree) → g.check k x ≡ true) → ((t : Token) → g.good o t ≡ true)
    → ((t : Token) → g.good c t ≡ true) → first g.rows (Sym k) ≡ o ∷ [] → nullable g.rows (Sym k) ≡ false → n Stop ≡ []
    → ((x y : ParseTree) → n (More x y) ≡ f x ∷ n y) → ((t u x xs : ParseTree) → m (Node k (Both t (Both (Both x xs) u))) ≡ f x ∷ n xs) → IsList g o c a f k m
is_list {f = f} n rule passes opens closes begins is_more stop more means = record {
  rule = rule;
  passes = passes;
  opens = opens;
  closes = closes;
  begins = begins;
  is_more = is_more;
  means = λ t u x xs h. means (Leaf t) (Leaf u) x xs ∙ ap (λ l. f x ∷ l) (each_means f n stop more h);
}

module _ {A : Type 0} {g : Grammar} {o c : Class} {a : Expr} {f : ParseTree → A} {k : ℕ} {m : ParseTree → List A} (s : IsList g o c a f k m) where
  -- the opener is next, so the list begins
  pub list_begun : {old : Items} → Leads g (Sym k) (Then (One o) (Then (some_of a) (One c))) (Node k) old old
  list_begun {old} = subst (λ e. Leads g (Sym k) e (Node k) old old) s.rule (begun k s.passes)

  pub begun_by : BegunBy g k (o ∷ [])
  begun_by = record { something = s.is_more; first = s.begins }

  -- the opener is taken
  pub opened : {old mid : Items} {t : Token} → TakesToken o old mid t
      → Leads g (Sym k) (Then (some_of a) (One c)) (λ x. Node k (Both (Leaf t) x)) old mid
  opened {old} {mid} {t} h = past list_begun (took h (s.opens t))
