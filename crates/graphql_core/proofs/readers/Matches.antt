-- Matching one token against a class.
use denote.Enum.Bare.{sameb, same_true}
use Rattle.std.proofs.Common.{Bool, ◌||◌, rules, ◌≡◌, ℕ, true, false, eqb, nat_eq, ◌==◌, List, [], ◌∷◌, drop, refl, sym, ap, ◌∙◌, arith}
use Rattle.graphql_core.specs.contracts.tokenizer.token.Kind.{the_type}
use Rattle.std.specs.Cmp.Lexicographic.{pointwise}
use Rattle.graphql_core.specs.{Token, Class, same_spelling, matches, peek, sees, kind_number, Items, after}
use Rattle.graphql_core.specs.{kept, sees_class, TakesToken}
use Rattle.graphql_core.specs.declared.tokenizer.token.Kind.{Kind}

eqb-comm : (m n : ℕ) → nat_eq m n ≡ eqb n m
eqb-comm m n = grind (arith)

-- a comparison of two strings as the grammar's comparison of two spellings
pub same_text_spelling : (xs ys : List ℕ) → pointwise nat_eq xs ys ≡ same_spelling ys xs
same_text_spelling [] [] = refl
same_text_spelling [] (y ∷ ys) = refl
same_text_spelling (x ∷ xs) [] = refl
same_text_spelling (x ∷ xs) (y ∷ ys) = rw (eqb-comm x y, same_text_spelling xs ys) refl

-- equal kinds have equal numbers
pub same_kind_number : (a b : Kind) → sameb the_type a b ≡ true → (kind_number b == kind_number a) ≡ true
same_kind_number a b e = rw (same_true the_type (search rules) a b e) (grind (arith))

pub takes_token : (c : Class) (old new : Items) (t : Token) → old.tokens ≡ t ∷ drop 1 old.tokens → new ≡ after old → matches c t ≡ true → TakesToken c old new t
takes_token c old new t e a m = record {
  of_class = m;
  tokens = e ∙ ap (λ (i : Items). t ∷ i.tokens) (sym a);
  kept = ap kept a;
}

or_first : (b : Bool) → b || false ≡ true → b ≡ true
or_first true e = refl
or_first false e = e

pub seen_matches : (c : Class) (i : Items) (t : Token) → i.tokens ≡ t ∷ drop 1 i.tokens → sees_class c i ≡ true → matches c t ≡ true
seen_matches c i t e h = or_first (matches c t) (sym (ap (λ ts. sees (c ∷ []) (peek ts)) e) ∙ h)
