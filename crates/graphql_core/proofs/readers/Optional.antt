-- An optional symbol, decided by the next item.
use Rattle.std.proofs.Common.{◌≡◌, ℕ, true, false, List, Result, refl, ap, ◌∙◌}
use Rattle.graphql_core.specs.{Grammar, Expr, Empty, Either, Sym, ParseTree, First, Second, Nothing, optional, peek}
use Rattle.graphql_core.specs.{Token, Class, nullable, first, sees, Items, TakesSome, Gives}
use Rattle.graphql_core.proofs.readers.ReaderSteps.{picks-first}
use Rattle.graphql_core.specs.declared.helpers.read_error.ReadError.{ReadError}
use Rattle.graphql_core.proofs.readers.Alternatives.{IsSide, side_chosen_first}
use Rattle.graphql_core.proofs.readers.Reading.{takes_none}
use Rattle.graphql_core.proofs.readers.Steps.{Leads, leads_in, gives_led}

-- k is not nullable, and its first set is these classes
pub record BegunBy (g : Grammar) (k : ℕ) (cs : List Class) : Type 0 where
  pub something : nullable g.rows (Sym k) ≡ false
  pub first : first g.rows (Sym k) ≡ cs

-- the symbol is present, before another expression or nothing
pub seen_symbol : {g : Grammar} {k : ℕ} {cs : List Class} (other : Expr) {ts : List Token} → BegunBy g k cs → sees cs (peek ts) ≡ true
    → IsSide g (Either (Sym k) other) (Sym k) First ts
seen_symbol {g} {k} other {ts} b seen =
    side_chosen_first g (Sym k) other ts (picks-first g.rows (Sym k) other (peek ts) (ap (λ ds. sees ds (peek ts)) b.first ∙ seen))

pub there : {g : Grammar} {k : ℕ} {cs : List Class} {old : Items} → BegunBy g k cs → sees cs (peek old.tokens) ≡ true
    → Leads g (optional (Sym k)) (Sym k) First old old
there b seen = leads_in (seen_symbol Empty b seen)

-- and it is what its reader returns
pub some_given : {A : Type 0} {g : Grammar} {k : ℕ} {cs : List Class} (old new : Items) (P Q : A → ParseTree → Type 0) (r : Result A ReadError)
    → BegunBy g k cs → sees cs (peek old.tokens) ≡ true → ((v : A) (x : ParseTree) → P v x → Q v (First x)) → Gives g (Sym k) old new P r
    → Gives g (optional (Sym k)) old new Q r
some_given old new P Q r b seen means = gives_led new P Q r (there b seen) (λ v x h. means v x)

-- or it is missing
pub none_given : {g : Grammar} {k : ℕ} {cs : List Class} {old : Items} {P : ParseTree → Type 0} → BegunBy g k cs → sees cs (peek old.tokens) ≡ false
    → P (Second Nothing) → TakesSome g (optional (Sym k)) old old P
none_given {g} {k} {old = old} b unseen none =
    (Second Nothing, (takes_none g (Sym k) old.tokens b.something (ap (λ ds. sees ds (peek old.tokens)) b.first ∙ unseen), refl), none)
