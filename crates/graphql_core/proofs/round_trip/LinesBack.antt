-- Lines in braces parse back, if a grammar takes the braces and the content of the lines.
use Rattle.std.proofs.Common.{ℕ, ◌+◌, ◌<◌, Bool, false, List, [], codes, refl}
use Rattle.graphql_core.specs.{Grammar, Expr, Then, ParseTree, Both, Part, punctuator_class, punctuator, in_braces}
use Rattle.graphql_core.proofs.round_trip.ParsingBack.{Back, Takes, margin_back, gap_back, then_gap, open_back, close_back, three_back}
use Rattle.graphql_core.specs.declared.tokenizer.token.Kind.TheVariants.{Punctuator}
use Rattle.graphql_core.proofs.round_trip.ValuesBack.{spaces_blank}

pub in_braces_back : {g : Grammar} {e : Expr} {p : Bool} {d : ℕ} {lines : List Part} {P R : ParseTree → Type 0} (margin : ℕ)
    → Takes g (punctuator_class (codes "{")) Punctuator (codes "{") → Takes g (punctuator_class (codes "}")) Punctuator (codes "}") → d < 50
    → Back g e false (d + 1) lines false (d + 1) P → ((x y z : ParseTree) → P y → R (Both x (Both y z)))
    → Back g (Then (punctuator (codes "{")) (Then e (punctuator (codes "}")))) p d (in_braces margin lines) false d R
in_braces_back margin opens closes capacity inside all =
    three_back (open_back (codes "{") (refl, refl) capacity opens) (gap_back refl inside)
    (margin_back (spaces_blank margin) (then_gap 10 [] refl (close_back (codes "}") (refl, refl) closes)))
    (λ x y z hx hy hz. all x y z hy)
