-- The next token, names separated by a punctuator, and optional parts.
use Rattle.std.proofs.Common.{◌≡◌, ◌||◌, ℕ, true, false, List, [], ◌∷◌, map, codes, refl, ap, ◌∙◌}
use Rattle.graphql_core.specs.{Token, Class, Expr, One, Then, Sym, ParseTree, Leaf, Both, First, Node, optional, leaves, peek, first, row, sees, Consumes}
use Rattle.graphql_core.specs.{written, TakesSome, place_next, TakesToken, any, first_place, Adds, punctuator, keyword, each_of, separated_of, joined_of}
use Rattle.graphql_core.specs.{tables as shared_tables, Items, punctuator_class}
use Rattle.graphql_core.specs.declared.tokenizer.token.Kind.TheVariants.{Name, StringValue, BlockString}
use Rattle.graphql_core.proofs.{fills, takes_one, taken_both, Pushes, some_taken, sees_both, begins_at, BegunBy, Leads, into, there, side_node}
use Rattle.graphql_schema.specs.{changes, description_symbol, joined_by, implements_symbol, members_symbol, tables}
use Rattle.graphql_schema.specs.{schemas, as_written, sees_description, sees_described_name}
use Rattle.graphql_schema.proofs.readers.Readable.{readable}
use Rattle.graphql_schema.proofs.readers.Lifted.{reading}
use Rattle.graphql_core.specs.values.Grammar as shared

-- ---- what can begin with a description or with a name

pub begins_description : (i : Items) → sees (any StringValue ∷ any BlockString ∷ []) (peek i.tokens) ≡ sees_description i
begins_description i = sees_both (any StringValue ∷ []) (any BlockString ∷ []) (peek i.tokens)

pub begins_described_name : (i : Items) → sees (any StringValue ∷ any BlockString ∷ any Name ∷ []) (peek i.tokens) ≡ sees_described_name i
begins_described_name i =
    sees_both (any StringValue ∷ any BlockString ∷ []) (any Name ∷ []) (peek i.tokens)
    ∙ ap (λ b. b || sees (any Name ∷ []) (peek i.tokens)) (begins_description i)

-- the position of a name with its description, if it has one
pub described_at : (old mid new : Items) (d : ParseTree) (t : Token) → Consumes reading (optional (Sym description_symbol)) old d mid
    → TakesToken (any Name) mid new t → first_place (leaves (written changes (Both d (Leaf t)))) ≡ place_next old
unfolding tables
described_at old mid new d t described named =
    begins_at schemas readable (Then (optional (Sym description_symbol)) (One (any Name))) old new (Both d (Leaf t)) refl
    (taken_both described (takes_one reading (any Name) mid new t refl named)).0

-- ---- optional symbols

pub description_begins : BegunBy reading description_symbol (any StringValue ∷ any BlockString ∷ [])
unfolding tables
description_begins = record { something = refl; first = refl }

pub implements_begins : BegunBy reading implements_symbol (keyword (codes "implements") ∷ [])
unfolding tables shared_tables
implements_begins = record { something = refl; first = refl }

pub members_begins : BegunBy reading members_symbol (punctuator_class (codes "=") ∷ [])
unfolding tables shared_tables
members_begins = record { something = refl; first = refl }

-- an optional symbol is present: what follows is its rule
pub opens : {k : ℕ} {cs : List Class} {old : Items} → BegunBy reading k cs → ((x : ParseTree) → reading.check k x ≡ true)
    → sees cs (peek old.tokens) ≡ true → Leads reading (optional (Sym k)) (row reading k).rule (λ x. First (Node k x)) old old
opens begins passes seen = into (there begins seen) (side_node reading _ _ passes)

-- ---- a list separated by a punctuator: f is what a part denotes, and view what an element is seen as

pub joined_taken : {V A : Type 0} (s : List ℕ) (e : Expr) (f : ParseTree → A) (none : A) (view : V → A) {old mid : Items} {M : ParseTree → Type 0}
    {start now : Items} (from : List V) {to new : List V} → from ≡ [] → TakesSome reading (optional (punctuator s)) old mid M
    → TakesSome reading e mid start (λ x. Adds view from to (as_written f x ∷ []))
    → Pushes reading (Then (punctuator s) e) (as_written (separated_of f none)) view start now to new
    → sees (first reading.rows (Then (punctuator s) e)) (peek now.tokens) ≡ false
    → TakesSome reading (joined_by s e) old now (λ x. map view new ≡ as_written (joined_of f none) x)
joined_taken s e f none view from empty (m, separated, any) one p unseen =
    let (x, takes, adds) = some_taken (as_written f) (as_written (each_of (separated_of f none))) (λ x. as_written (joined_of f none) (Both m x)) from
    refl (λ x y. refl) (λ x y. refl) one p unseen in
    (Both m x, taken_both separated takes, fills view _ _ _ empty adds)

-- a punctuator and a name
abbrev pub separated : List ℕ → Expr
separated s = Then (punctuator s) shared.name
