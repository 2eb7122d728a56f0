-- Lists parse back if each of their elements does: elements in parentheses, and the definitions of a document.
use Rattle.std.proofs.Common.{◌≡◌, ℕ, ◌+◌, ◌≤◌, Bool, true, false, List, [], ◌∷◌, ◌++◌, codes, map, refl, sym, ap, ap₂, subst, arith, append_assoc}
use Rattle.graphql_core.specs.{Grammar, Expr, Then, Many, Sym, ParseTree, Node, row, optional, some_of, punctuator_part}
use Rattle.graphql_core.specs.{text_of, Part, punctuator_class, punctuator, ParsesBackTo, each_after, after_commas}
use Rattle.graphql_core.specs.{in_parentheses, most, most_enclosed, each_of, optional_list_of, enclosed_of, Language}
use Rattle.graphql_core.proofs.round_trip.ParsingBack.{Back, Takes, as_word_back, same_parts, gap_back, open_back, close_back, both_back, first_back, node_back}
use Rattle.graphql_core.proofs.round_trip.ParsingBack.{stop_back, more_back, three_back, parses_back, second_back, nothing_back}
use Rattle.graphql_core.proofs.layouts.{is_blank}
use Rattle.std.specs.List.{AllByRecursion, list_all}
use Rattle.graphql_core.specs.declared.tokenizer.token.Kind.TheVariants.{Punctuator}

pub both_of_each : {A : Type 0} (P Q : A → Type 0) (xs : List A) → AllByRecursion P xs → AllByRecursion Q xs → AllByRecursion (λ x. P x × Q x) xs
both_of_each P Q [] h k = tt
both_of_each P Q (x ∷ xs) (h, hs) (k, ks) = ((h, k), both_of_each P Q xs hs ks)

-- elements that parse back, with white space between two
module _ {A : Type 0} {g : Grammar} {q : Bool} {one : Expr} (d : ℕ) (f : ParseTree → A) (erase : A → A) (lines : A → List Part) (P Q : A → Type 0)
    (brackets : A → ℕ) (each : (a : A) → P a → Q a → d + brackets a ≤ 50 → Back g one false d (lines a) q d (λ x. erase (f x) ≡ erase a))
    (c : ℕ) (text : List ℕ) (blank : list_all is_blank (c ∷ text) ≡ true) where
  pub each_after_back : (xs : List A) → AllByRecursion P xs → AllByRecursion Q xs → d + most brackets xs ≤ 50
      → Back g (Many one) q d (each_after (c ∷ text) lines xs) q d (λ x. map erase (each_of f x) ≡ map erase xs)
  each_after_back [] is law deep = stop_back refl
  each_after_back (x ∷ xs) (is, are) (law, laws) deep =
      gap_back blank (more_back (each x is law (omega arith)) (each_after_back xs are laws (omega arith)) (λ y z hy hz. ap₂ (λ t ts. t ∷ ts) hy hz))

  pub some_back : (x : A) (xs : List A) → AllByRecursion P (x ∷ xs) → AllByRecursion Q (x ∷ xs) → d + most brackets (x ∷ xs) ≤ 50
      → Back g (some_of one) false d (lines x ++ each_after (c ∷ text) lines xs) q d (λ y. map erase (each_of f y) ≡ map erase (x ∷ xs))
  some_back x xs (is, are) (law, laws) deep =
      both_back (each x is law (omega arith)) (each_after_back xs are laws (omega arith)) (λ y z hy hz. ap₂ (λ t ts. t ∷ ts) hy hz)

-- elements in parentheses, if there are any
pub in_parentheses_back : {A : Type 0} {g : Grammar} {one : Expr} {k : ℕ} (f : ParseTree → A) (erase : A → A) (lines : A → List Part) (P Q : A → Type 0)
    (brackets : A → ℕ) → (row g k).rule ≡ Then (punctuator (codes "(")) (Then (some_of one) (punctuator (codes ")")))
    → ((y : ParseTree) → g.check k y ≡ true)
    → Takes g (punctuator_class (codes "(")) Punctuator (codes "(") → Takes g (punctuator_class (codes ")")) Punctuator (codes ")")
    → ((a : A) (d : ℕ) → P a → Q a → d + brackets a ≤ 50 → Back g one false d (lines a) true d (λ x. erase (f x) ≡ erase a))
    → (xs : List A) (d : ℕ) → AllByRecursion P xs → AllByRecursion Q xs → d + most_enclosed brackets xs ≤ 50
    → Back g (optional (Sym k)) true d (in_parentheses lines xs) true d (λ x. map erase (optional_list_of (enclosed_of f) x) ≡ map erase xs)
in_parentheses_back f erase lines P Q brackets rule passes opens closes each [] d is law deep = second_back (nothing_back refl)
in_parentheses_back {g = g} {k = k} f erase lines P Q brackets rule passes opens closes each (x ∷ xs) d is law deep =
    let ps : List Part = punctuator_part (codes "(") ++ ((lines x ++ after_commas lines xs) ++ punctuator_part (codes ")")) in
    same_parts ps _
    (ap (λ (l : List Part). punctuator_part (codes "(") ++ l) (sym (append_assoc (lines x) (after_commas lines xs) (punctuator_part (codes ")")))))
    (first_back (node_back passes (subst (λ (e : Expr). Back g e true d ps true d (λ y. map erase (enclosed_of f (Node k y)) ≡ map erase (x ∷ xs))) (sym rule)
    (as_word_back (three_back {Q = λ y. map erase (each_of f y) ≡ map erase (x ∷ xs)} (open_back (codes "(") (refl, refl) (omega arith) opens)
    (some_back (d + 1) f erase lines P Q brackets (λ a p q b. each a (d + 1) p q b) 44 (32 ∷ []) refl x xs is law (omega arith))
    (close_back (codes ")") (refl, refl) closes) (λ o y c ho hy hc. hy))))))

-- a layout that the grammar derives as a document parses back to that document, ignoring positions
pub document_back : {D : Type 0} (l : Language D) {q : Bool} {f : ℕ} {ps : List Part} (t : D)
    → Back l.grammar (Sym l.document) false 0 ps q f (λ x. l.erase (l.means x) ≡ l.erase t) → ParsesBackTo l (text_of ps) t
document_back l t back =
    let (items, has, x, derives, end, same) = parses_back back in
    (l.means x, (items, has, (x, derives, end, refl)), same)
