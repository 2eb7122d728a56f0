-- How the leaves of a tree are spelled.
use Rattle.std.proofs.Common.{◌≡◌, ℕ, true, not, ◌==◌, List, sym, ap, ◌∙◌}
use Rattle.std.proofs.lemmas.Bool.{both_ways, and_parts, not-true}
use Rattle.graphql_core.specs.{class_kind, Class, Except, is_listed, matches, Grammar, One, ParseTree, kind_number, IsName, spelling_at}
use Rattle.graphql_core.proofs.values.NestingDepth.{class_name}
use Rattle.graphql_core.proofs.values.BracketCapacity.{HasCapacity, capacity_leaf}
use Rattle.graphql_core.specs.declared.tokenizer.token.Kind.TheVariants.{Name}

-- a leaf of a class of names is spelled as a name
pub leaf_name : {g : Grammar} {n : ℕ} {c : Class} {x : ParseTree} → class_kind c ≡ kind_number Name → HasCapacity g n (One c) x → IsName (spelling_at x)
leaf_name {g} is (capacity_leaf {c = c} {t = t} a l d) = class_name c t is (and_parts (matches c t) (g.good c t) a).0 l

-- a leaf is none of the words that its class excepts
pub leaf_except : {g : Grammar} {n k : ℕ} {words : List (List ℕ)} {x : ParseTree} (w : List ℕ) → is_listed w words ≡ true → HasCapacity g n (One (Except k words)) x
    → spelling_at x ≡ w → ⊥
leaf_except {g} {k = k} {words = words} w is (capacity_leaf {t = t} a l d) e =
    let (spelled, value) = and_parts (matches (Except k words) t) (g.good (Except k words) t) a in
    let other = not-true _ (and_parts (k == t.kind) (not (is_listed t.spelling words)) spelled).1 in
    both_ways (is_listed w words) (ap (λ (s : List ℕ). is_listed s words) (sym e) ∙ other) is
