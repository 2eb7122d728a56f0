-- Which alternative of each choice in selections is read, and what it denotes.
use Rattle.std.proofs.Common.{◌≡◌, ◌||◌, ℕ, true, false, List, [], ◌∷◌, Result, Ok, Err, Option, refl, sym, ap, ◌∙◌, codes}
use Rattle.std.proofs.Math.Bool.{or-false}
use Rattle.graphql_core.specs.{takes_leaf, takes_stop, TakesOne, Token, Place, Class, matches, Expr, One, Then, Either, Many, Sym, ParseTree, Leaf, Both, First}
use Rattle.graphql_core.specs.{Second, Node, peek, leaves, first, sees, Takes, takes_nothing, takes_both, takes_first, takes_second, takes_node, fails_one}
use Rattle.graphql_core.specs.{Fails, fails_before, fails_after, fails_node, Reason, each_of, StopsFor, written, TakesToken, sees_class, Gives}
use Rattle.graphql_core.specs.{tables as shared_tables, any, keyword, directive_symbol, first_place, optional_arguments_of, directives_of, DirectiveTree}
use Rattle.graphql_core.specs.{Grammar, Items, punctuator_class, name, Consumes}
use Rattle.graphql_core.specs.theory.Tables.{nullable}
use Rattle.graphql_core.specs.declared.helpers.read_error.ReadError.{ReadError}
use Rattle.graphql_core.specs.declared.tokenizer.token.Kind.TheVariants.{Name}
use Rattle.graphql_core.proofs.{sees-within, FailsUnseen, unseen_one, unseen_then, takes_one, stops_one, takes_none, many_means, IsSide, side_first, side_left}
use Rattle.graphql_core.proofs.{side_right, unseen_symbol, Leads, halts, past, none_within, side_in, side_nth, sees_both, BegunBy}
use Rattle.graphql_query.specs.{more, Arguments, SelectionTree, SelectionSetTree, trees_of, field, inline, reading, changes, tables, spread_class}
use Rattle.graphql_query.specs.{type_condition_symbol, selection_set_symbol, field_symbol, selection_symbol, field_rest, fragment_spread_rest}
use Rattle.graphql_query.specs.{inline_fragment_rest, field_of, optional_selection_set_of, selection_of, selections_of, first_names, alias_and_name_of}
use Rattle.graphql_query.specs.{after_dots_of}
use Rattle.graphql_query.proofs.readers.Lifted.{begun}

-- ---- single tokens

pub gives_one : {A : Type 0} (g : Grammar) (c : Class) (old new : Items) (P : A → Token → Type 0) (Q : A → ParseTree → Type 0) (r : Result A ReadError)
    → ((t : Token) → g.good c t ≡ true)
    → ((v : A) (t : Token) → TakesToken c old new t → P v t → Q v (Leaf t)) → TakesOne c old new P r → Gives g (One c) old new Q r
gives_one g c old new P Q (Ok v) good means (t, h, p) = (Leaf t, takes_one g c old new t (good t) h, means v t h p)
gives_one g c old new P Q (Err d) good means h = stops_one g c old new d h

-- ---- names

abbrev pub on : Class
on = keyword (codes "on")

-- a name that can be the name of a spread
pub narrowed : {A : Type 0} (old new : Items) (P : A → Token → Type 0) (r : Result A ReadError) → sees_class spread_class old ≡ true
    → TakesOne (any Name) old new P r → TakesOne spread_class old new P r
narrowed old new P (Ok v) seen (t, h, p) = (
  t,
  record {
    of_class = sym (or-false (matches spread_class t)) ∙ ap (λ ts. sees (spread_class ∷ []) (peek ts)) (sym h.tokens)
        ∙ seen;
    tokens = h.tokens;
    kept = h.kept;
  },
  p,
)
narrowed old new P (Err e) seen h =
    none_within (any Name) spread_class old new P e (sees-within (spread_class ∷ []) (any Name ∷ []) (peek old.tokens) refl) h

-- ---- optional parts

pub type_condition_begins : BegunBy reading type_condition_symbol (on ∷ [])
unfolding tables
type_condition_begins = record { something = refl; first = refl }

pub selection_set_begins : BegunBy reading selection_set_symbol (punctuator_class (codes "{") ∷ [])
unfolding tables
selection_set_begins = record { something = refl; first = refl }

-- ---- the alternatives of a selection

abbrev pub dots : Class
dots = punctuator_class (codes "...")

abbrev pub after_dots : Expr
after_dots = Either fragment_spread_rest inline_fragment_rest

abbrev pub dots_rule : Expr
dots_rule = Then (One dots) after_dots

pub unseen_field : (ts : List Token) → FailsUnseen reading (Sym field_symbol) ts
unfolding tables
unseen_field ts = unseen_symbol reading field_symbol ts refl (unseen_then reading name _ ts refl (unseen_one reading _ ts))

pub field_side : (ts : List Token) → sees (dots ∷ []) (peek ts) ≡ false
    → IsSide reading (Sym selection_symbol) (Sym field_symbol) (λ x. Node selection_symbol (First x)) ts
unfolding tables
field_side ts unseen = side_in selection_symbol (λ x. refl) (side_left reading (Sym field_symbol) dots_rule ts refl refl (unseen_field ts) unseen)

pub dots_side : (ts : List Token) → sees (dots ∷ []) (peek ts) ≡ true
    → IsSide reading (Sym selection_symbol) dots_rule (λ x. Node selection_symbol (Second x)) ts
unfolding tables shared_tables
dots_side ts seen = side_in selection_symbol (λ x. refl) (side_nth dots _ 1 refl seen)

pub fragment_spread_side : (ts : List Token) → sees (spread_class ∷ []) (peek ts) ≡ true → IsSide reading after_dots fragment_spread_rest First ts
unfolding tables
fragment_spread_side ts seen = side_first reading fragment_spread_rest inline_fragment_rest spread_class ts refl seen

-- a token that begins none of its parts begins no inline fragment
unseen_inline_fragment : (ts : List Token) → FailsUnseen reading inline_fragment_rest ts
unfolding tables shared_tables
unseen_inline_fragment ts h =
    let no_brace = sees-within (punctuator_class (codes "{") ∷ []) (first reading.rows inline_fragment_rest) (peek ts) refl h in
    let no_directive = sees-within (first reading.rows (Sym directive_symbol)) (first reading.rows inline_fragment_rest) (peek ts) refl h in
    let no_condition = sees-within (on ∷ []) (first reading.rows inline_fragment_rest) (peek ts) refl h in
    fails_after (takes_none reading (Sym type_condition_symbol) ts refl no_condition)
    (fails_after (takes_node (takes_stop no_directive) refl) (fails_node (fails_before (fails_one no_brace))))

pub inline_fragment_side : (ts : List Token) → sees (spread_class ∷ []) (peek ts) ≡ false → IsSide reading after_dots inline_fragment_rest Second ts
unfolding tables shared_tables
inline_fragment_side ts unseen = side_right reading fragment_spread_rest inline_fragment_rest ts refl refl (unseen_inline_fragment ts) unseen

-- what follows the dots of an inline fragment has a token, and so has a selection
pub some_rest : nullable reading.rows inline_fragment_rest ≡ false
unfolding tables shared_tables
some_rest = refl

pub some_selection : nullable reading.rows (Sym selection_symbol) ≡ false
unfolding tables
some_selection = refl

pub begins_selection : (item : Option Token) → sees (first reading.rows (Sym selection_symbol)) item ≡ (sees (any Name ∷ []) item || sees (dots ∷ []) item)
unfolding tables
begins_selection item = sees_both (any Name ∷ []) (dots ∷ []) item

-- ---- what the parse trees denote

-- a field, from its names and what follows them
abbrev pub field_parse_tree : ParseTree → ParseTree → ParseTree
field_parse_tree (Both n a) rest = Node field_symbol (Both n (Both a rest))
field_parse_tree x rest = x

pub names_taken : {old new : Items} {x : ParseTree} → Consumes reading first_names old x new
    → Leads reading (Sym field_symbol) field_rest (field_parse_tree x) old new
names_taken {old} (takes_both {us = us} h k, same) =
    past (past {mid = old} {new = record { tokens = us; last = old.last; spent = old.spent }} (begun field_symbol) (h, refl)) (k, same)

fails_in_names : (ts us : List Token) (why : Reason) → Fails reading first_names ts why us → Fails reading (Sym field_symbol) ts why us
fails_in_names ts us why (fails_before h) = fails_node (fails_before h)
fails_in_names ts us why (fails_after t h) = fails_node (fails_after t (fails_before h))

pub stops_in_names : (old new : Items) (o : Option Reason) → StopsFor reading first_names old new o → StopsFor reading (Sym field_symbol) old new o
stops_in_names old new o = halts new o refl (fails_in_names old.tokens new.tokens)

-- the position of the field is that of its first name
pub field_means : {ts us : List Token} (x y z s : ParseTree) → Takes reading first_names ts x us
    → (p : Place) (named : Option (List ℕ) × List ℕ) (arguments : Arguments) (directives : List DirectiveTree) (selected : SelectionSetTree)
    → first_place (leaves (written changes x)) ≡ p → named ≡ alias_and_name_of (written changes x) → arguments ≡ optional_arguments_of (written changes y)
    → directives ≡ directives_of (written changes z)
    → selected ≡ optional_selection_set_of p (written changes s)
    → field p named.0 named.1 arguments directives selected ≡ field_of (written changes (field_parse_tree x (Both y (Both z s))))
field_means _ y z s (takes_both (takes_leaf i) (takes_first c (takes_both (takes_leaf h) (takes_leaf k)))) _ _ _ _ _ at names given listed selects = rw
    (at, names, given, listed, selects) refl
field_means _ y z s (takes_both (takes_leaf i) (takes_second c takes_nothing)) _ _ _ _ _ at names given listed selects = rw
    (at, names, given, listed, selects) refl

pub inline_fragment_means : (p q : Place) (c d : Option (List ℕ)) (directives others : List DirectiveTree) (s u : SelectionSetTree) → p ≡ q → c ≡ d
    → directives ≡ others → s ≡ u → inline p c directives s ≡ inline q d others u
inline_fragment_means p q c d directives others s u at named listed selects = rw (at, named, listed, selects) refl

pub dots_mean : {ts us : List Token} {x : ParseTree} → Takes reading dots_rule ts x us
    → after_dots_of (written changes x) ≡ selection_of (written changes (Node selection_symbol (Second x)))
dots_mean (takes_both (takes_leaf h) (takes_first c p)) = refl
dots_mean (takes_both (takes_leaf h) (takes_second c p)) = refl

-- the selection that a parse tree of the factored rules denotes
abbrev pub selection_at : ParseTree → SelectionTree
selection_at x = selection_of (written changes x)

pub selections_mean : {ts us : List Token} {x : ParseTree} → Takes reading (Many (Sym selection_symbol)) ts x us
    → selections_of (written changes x) ≡ trees_of (each_of selection_at x)
selections_mean h = many_means reading _ selection_at (λ x. selections_of (written changes x)) trees_of refl (λ x y vs e. ap (more (selection_at x)) e) h
