-- Tests on classes of tokens: that two have no token in common, and that one is within another.
use Rattle.std.specs.Prelude.{ℕ, Bool, true, false, not, ◌&&◌, ◌||◌, ◌==◌, List, [], ◌∷◌}
use Rattle.graphql_core.specs.grammar.Tokens.{Token, Class, Spelled, AnyOf, Except, same_spelling, class_kind}
use Rattle.graphql_core.specs.grammar.Tokens.{takes_spelling, matches}

-- tests that no token is of both classes
abbrev pub spellings_apart : Class → Class → Bool
spellings_apart (Spelled k s) d = not (takes_spelling d s)
spellings_apart c (Spelled k s) = not (takes_spelling c s)
spellings_apart _ _ = false

abbrev pub apart : Class → Class → Bool
apart c d = not (class_kind c == class_kind d) || spellings_apart c d

-- tests that each token of the first class is of the second
abbrev pub same_spellings : List (List ℕ) → List (List ℕ) → Bool
same_spellings [] [] = true
same_spellings (x ∷ xs) (y ∷ ys) = same_spelling x y && same_spellings xs ys
same_spellings _ _ = false

abbrev pub spellings_within : Class → Class → Bool
spellings_within c (AnyOf k) = true
spellings_within (Spelled k s) d = takes_spelling d s
spellings_within (Except k ss) (Except l us) = same_spellings ss us
spellings_within _ _ = false

abbrev pub within : Class → Class → Bool
within c d = (class_kind c == class_kind d) && spellings_within c d

-- the same for lists of classes
abbrev pub in_any : List Class → Token → Bool
in_any [] t = false
in_any (c ∷ cs) t = matches c t || in_any cs t

abbrev pub apart_from : Class → List Class → Bool
apart_from c [] = true
apart_from c (d ∷ ds) = apart c d && apart_from c ds

abbrev pub all_apart : List Class → List Class → Bool
all_apart [] ds = true
all_apart (c ∷ cs) ds = apart_from c ds && all_apart cs ds

abbrev pub within_any : Class → List Class → Bool
within_any c [] = false
within_any c (d ∷ ds) = within c d || within_any c ds

abbrev pub all_within : List Class → List Class → Bool
all_within [] ds = true
all_within (c ∷ cs) ds = within_any c ds && all_within cs ds
