-- The layout of a type parses back.
use Rattle.std.proofs.Common.{◌≡◌, ℕ, ◌+◌, ◌≤◌, Bool, true, false, List, [], ◌∷◌, ◌++◌, codes, refl, sym, ap, ◌∙◌, arith, append_assoc, append-nil}
use Rattle.graphql_core.specs.{punctuator_part, Part, token, Sym, optional, TypeTree, named, list_of, non_null, type_layout, shared, type_symbol, punctuator}
use Rattle.graphql_core.specs.{spelling_at, optional_non_null, type_of, AdmitsNull, IsPrintableType, type_brackets}
use Rattle.graphql_core.proofs.round_trip.ParsingBack.{Back, as_word_back, anywhere_back, same_parts, means, word_back, punctuator_back, open_back, close_back}
use Rattle.graphql_core.proofs.round_trip.ParsingBack.{nothing_back, both_back, first_back, second_back, node_back, four_back}
use Rattle.graphql_core.specs.declared.tokenizer.token.Kind.TheVariants.{Punctuator}
use Rattle.graphql_core.proofs.round_trip.LeavesBack.{name_word}

-- with a `!` or without
abbrev bang : Bool → List Part
bang true = punctuator_part (codes "!")
bang false = []

abbrev banged : Bool → TypeTree → TypeTree
banged true t = non_null t
banged false t = t

abbrev Admits : Bool → TypeTree → Type 0
Admits true t = AdmitsNull t
Admits false t = Unit {0}

bang_back : (b : Bool) (d : ℕ)
    → Back shared (optional (punctuator (codes "!"))) true d (bang b) true d (λ m. (t : TypeTree) → optional_non_null m t ≡ banged b t)
bang_back true d = as_word_back (first_back (means (λ x h t. refl) (punctuator_back (codes "!") (refl, refl) (λ p. refl))))
bang_back false d = second_back (nothing_back (λ t. refl))

banged_back : (t : TypeTree) (b : Bool) (d : ℕ) → IsPrintableType t → Admits b t → d + type_brackets t ≤ 50
    → Back shared (Sym type_symbol) false d (type_layout t ++ bang b) true d (λ x. type_of x ≡ banged b t)
banged_back (named n) b d is a deep =
    node_back (λ x. refl) (first_back (both_back {P = λ x. spelling_at x ≡ n} (word_back (name_word n is) (λ p. refl) (λ t e. e)) (bang_back b d)
    (λ x m hx hm. hm (named (spelling_at x)) ∙ ap (λ s. banged b (named s)) hx)))
banged_back (list_of t) b d is a deep =
    same_parts (punctuator_part (codes "[") ++ (type_layout t ++ (punctuator_part (codes "]") ++ bang b))) _
    (ap (λ (l : List Part). token Punctuator (codes "[") ∷ l) (append_assoc (type_layout t) (punctuator_part (codes "]")) (bang b)))
    (node_back (λ x. refl) (second_back (four_back
    (open_back (codes "[") (refl, refl) (omega arith) (λ p. refl))
    (same_parts (type_layout t ++ []) (type_layout t) (sym (append-nil (type_layout t))) (banged_back t false (d + 1) is tt (omega arith)))
    (close_back (codes "]") (refl, refl) (λ p. refl))
    (anywhere_back (bang_back b d))
    (λ o x c m ho hx hc hm. hm (list_of (type_of x)) ∙ ap (λ u. banged b (list_of u)) hx))))
banged_back (non_null t) true d is a deep = absurd a
banged_back (non_null t) false d (a, is) _ deep = same_parts (type_layout t ++ bang true) _ (append-nil _) (banged_back t true d is a deep)

pub type_back : (t : TypeTree) (d : ℕ) → IsPrintableType t → d + type_brackets t ≤ 50
    → Back shared (Sym type_symbol) false d (type_layout t) true d (λ x. type_of x ≡ t)
type_back t d is deep = same_parts (type_layout t ++ []) (type_layout t) (sym (append-nil (type_layout t))) (banged_back t false d is tt deep)
