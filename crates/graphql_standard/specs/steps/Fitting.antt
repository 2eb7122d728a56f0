-- Tests that a row of the program is what the grammar does.
use Rattle.std.specs.Prelude.{◌≡◌, Bool, true, false, not, ◌&&◌, ◌||◌, ◌==◌, List, [], ◌∷◌, ◌++◌, map, Some, None}
use Rattle.std.specs.Borrow.{Bor}
use Rattle.graphql_core.specs.{Class, Spelled, AnyOf, Except, same_spelling, Expr, Empty, One, Then, Either, Many}
use Rattle.graphql_core.specs.{Sym, any, keyword}
use Rattle.graphql_core.specs.{punctuator_class, location_class}
use Rattle.graphql_core.specs.values.Grammar.{enum_class}
use Rattle.graphql_core.specs.theory.Classes.{same_spellings}
use Rattle.graphql_core.specs.declared.tokenizer.token.Kind.TheVariants as kind
use Rattle.graphql_standard.specs.theory.Effects.{Effect, Taken, Passed, Stopped, effect, flat}
use Rattle.graphql_standard.specs.Symbols.{fragment_name_class}
use Rattle.graphql_standard.specs.Grammar.{standard}
use Rattle.graphql_standard.specs.Terminals.{punctuators, keywords, terminals}
use Rattle.graphql_standard.specs.steps.Meanings.{means, means_all}
use Rattle.graphql_standard.specs.steps.Groups.{sample_of, has}
use Rattle.graphql_standard.specs.declared.terminal.Terminal.{Terminal}
use Rattle.graphql_standard.specs.declared.symbol.Symbol.{Symbol}
use Rattle.graphql_standard.specs.declared.symbol.Step.{Step}
use Rattle.graphql_standard.specs.declared.symbol.Step.TheVariants.{Take, Skip, Reject}
use Rattle.graphql_standard.specs.declared.symbol.Row.{Row}
use Rattle.graphql_standard.specs.declared.symbol.Group.{Group}

-- ---- the same expression

abbrev pub same_class : Class → Class → Bool
same_class (Spelled k s) (Spelled l u) = (k == l) && same_spelling s u
same_class (AnyOf k) (AnyOf l) = k == l
same_class (Except k ss) (Except l us) = (k == l) && same_spellings ss us
same_class _ _ = false

abbrev pub same_expr : Expr → Expr → Bool
same_expr Empty Empty = true
same_expr (One c) (One d) = same_class c d
same_expr (Then a b) (Then c d) = same_expr a c && same_expr b d
same_expr (Either a b) (Either c d) = same_expr a c && same_expr b d
same_expr (Many a) (Many b) = same_expr a b
same_expr (Sym k) (Sym l) = k == l
same_expr _ _ = false

abbrev pub same_exprs : List Expr → List Expr → Bool
same_exprs [] [] = true
same_exprs (a ∷ es) (b ∷ fs) = same_expr a b && same_exprs es fs
same_exprs _ _ = false

-- ---- the classes that the grammar names

abbrev pub named_classes : List Class
named_classes =
    map punctuator_class punctuators ++ (map keyword keywords ++ (any kind.Name ∷ fragment_name_class ∷ enum_class
    ∷ location_class ∷ any kind.IntValue ∷ any kind.FloatValue ∷ any kind.StringValue ∷ any kind.BlockString ∷ []))

abbrev pub is_among : Class → List Class → Bool
is_among c [] = false
is_among c (d ∷ ds) = same_class d c || is_among c ds

abbrev pub are_among : List Class → List Class → Bool
are_among [] ds = true
are_among (c ∷ cs) ds = is_among c ds && are_among cs ds

-- each class in the expression is one of these
abbrev pub names_only : List Class → Expr → Bool
names_only ds Empty = true
names_only ds (One c) = is_among c ds
names_only ds (Then a b) = names_only ds a && names_only ds b
names_only ds (Either a b) = names_only ds a && names_only ds b
names_only ds (Many a) = names_only ds a
names_only ds (Sym k) = true

-- ---- a row

abbrev pub fits_effect : Effect → Step → Bool
fits_effect (Taken es) (Take x) = same_exprs (flat 60 standard es) (flat 60 standard (means_all x.now))
fits_effect Passed Skip = true
fits_effect Stopped Reject = true
fits_effect _ _ = false

abbrev pub fits : Symbol → Terminal → Step → Bool
fits s k step = fits_effect (effect 60 standard (means s ∷ []) (Some (sample_of k))) step

-- the step by the first rule that fits the terminal
abbrev pub step_by : List (Group × Bor (List Symbol)) → Terminal → Step → Step
step_by [] k other = other
step_by (r ∷ rs) k other = elim (has r.0 k) [ true ↦ Take r.1 | false ↦ step_by rs k other ]

abbrev pub step_of : Row → Terminal → Step
step_of r k = step_by r.own.now k (step_by r.shared.now k (elim r.is_optional [ true ↦ Skip | false ↦ Reject ]))

abbrev pub fits_all : Symbol → Row → List Terminal → Bool
fits_all s r [] = true
fits_all s r (k ∷ ks) = fits s k (step_of r k) && fits_all s r ks

-- a symbol is optional exactly if it can be absent at the end
abbrev pub fits_end : Effect → Bool → Bool
fits_end Passed b = b
fits_end Stopped b = not b
fits_end _ b = false

abbrev pub fits_row : Symbol → Row → Bool
fits_row s r =
    (names_only named_classes (means s) && fits_end (effect 60 standard (means s ∷ []) None) r.is_optional)
    && fits_all s r terminals

-- the row is that of the symbol
unfoldable pub FitsRow : Symbol → Row → Type 0
FitsRow s r = fits_row s r ≡ true
