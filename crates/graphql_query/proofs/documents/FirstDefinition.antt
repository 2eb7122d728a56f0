-- The first definition of a list of tokens is what the reader of definitions consumes.
use Rattle.std.proofs.Common.{◌≡◌, false, List, [], ◌∷◌, ◌++◌, refl, sym, ap, subst, ◌∙◌}
use Rattle.graphql_core.specs.{cont, fails_check, Token, Sym, ParseTree, leaves, peek, row, written, sees, Takes, Reason, Fails, fails_node, StopsFor}
use Rattle.graphql_core.specs.{no_memory, IsFaultFor, IsErrorFor, reason_of, ParseFailure, Items, IsReadable}
use Rattle.graphql_core.specs.declared.helpers.read_error.ReadError.{ReadError}
use Rattle.graphql_core.specs.declared.helpers.read_error.ReadError.TheVariants.{Memory, Integer, Float, Escape, Location, Item}
use Rattle.graphql_core.proofs.{take-or_fail, exact_lax, least_stop, exact, halts}
use Rattle.graphql_query.specs.{tables, factored_rows, reading, changes, definition_symbol, one_definition, BeginsWith, NoneBeginsAnother}
use Rattle.graphql_query.proofs.readers.{readable}

pub readable_one : IsReadable one_definition
unfolding tables
readable_one = record {
  ll1 = readable.ll1;
  tight = readable.tight;
  productive = readable.productive;
  productive_lax = readable.productive_lax;
  decides = refl;
  samples = refl;
  samples_lax = refl;
  each = readable.each;
  each_unchecked = readable.each_unchecked;
  each_lax = readable.each_lax;
  goes_on = readable.goes_on;
  alone = readable.alone;
  good = readable.good;
  lacks = readable.lacks;
  location = readable.location;
  one_cause = readable.one_cause;
  rejects_tokens = readable.rejects_tokens;
  passes = λ x. refl;
  one_said = λ node f g h w. absurd h;
}

-- ---- where it stops

-- no definition is rejected as a node
rule_fails : {ts us : List Token} {why : Reason} → Fails reading (Sym definition_symbol) ts why us
    → Fails reading (row reading definition_symbol).rule ts why us
rule_fails (fails_node h) = h
rule_fails (fails_check h rejected) = absurd cc

pub least_error : (i j : Items) (s : ReadError) (e : ParseFailure) → StopsFor reading (Sym definition_symbol) i j (reason_of s) → IsFaultFor s j e
    → IsErrorFor one_definition i e
least_error i j s e h = least_stop one_definition readable_one i j s e (halts j (reason_of s) refl (λ why. rule_fails) h)

-- ---- what begins with a definition

-- no token can continue a whole definition
ends_there : (rest : List Token) → sees (cont factored_rows (Sym definition_symbol)) (peek rest) ≡ false
unfolding tables
ends_there [] = refl
ends_there (t ∷ ts) = refl

pub taken : (ts others : List Token) (x : ParseTree) → BeginsWith ts x others
    → (y : ParseTree) × Takes reading (Sym definition_symbol) ts y others × (written changes y ≡ x)
taken ts others x (fits, parts) =
    let (y, takes, is) = (exact one_definition readable_one).complete (leaves x) others x (fits, refl) (ends_there others) in
    (y, subst (λ (l : List Token). Takes reading (Sym definition_symbol) l y others) (sym parts) takes, is)

pub begins : (ts others : List Token) (y : ParseTree) → Takes reading (Sym definition_symbol) ts y others → BeginsWith ts (written changes y) others
begins ts others y takes =
    let ((fits, same), parts) = (exact one_definition readable_one).sound ts others y takes in
    (fits, parts ∙ ap (λ (l : List Token). l ++ others) same)

-- the first definition is unique
pub one_beginning : (ts us vs : List Token) (x y : ParseTree) → BeginsWith ts x us → BeginsWith ts y vs → (x ≡ y) × (us ≡ vs)
one_beginning ts us vs x y (fits, parts) (other_fits, other_parts) =
    let (same, front, rest) = (exact one_definition readable_one).one_split (leaves x) (leaves y) us vs x y (fits, refl) (other_fits, refl)
    (sym parts ∙ other_parts) (ends_there us) (ends_there vs) in
    (same, rest)

-- even if literals have no value
pub none_begins_another : NoneBeginsAnother
none_begins_another x y us vs fits other_fits parts =
    let (same, front, rest) = (exact_lax one_definition readable_one).one_split (leaves x) (leaves y) us vs x y (fits, refl) (other_fits, refl)
    parts (ends_there us) (ends_there vs) in
    (same, rest)

none_fails : (ts us vs : List Token) (x : ParseTree) (why : Reason) → BeginsWith ts x vs → Fails reading (Sym definition_symbol) ts why us → ⊥
none_fails ts us vs x why h fails = let (y, takes, is) = taken ts vs x h in take-or_fail reading takes fails

pub out_of_memory_only : (i j : Items) (s : ReadError) (e : ParseFailure) (x : ParseTree) (others : List Token)
    → StopsFor reading (Sym definition_symbol) i j (reason_of s) → IsFaultFor s j e → BeginsWith i.tokens x others → e ≡ no_memory
out_of_memory_only i j Memory e x others h f k = f
out_of_memory_only i j Item e x others h f k = absurd (none_fails i.tokens j.tokens others x _ k h.0)
out_of_memory_only i j Integer e x others h f k = absurd (none_fails i.tokens j.tokens others x _ k h.0)
out_of_memory_only i j Float e x others h f k = absurd (none_fails i.tokens j.tokens others x _ k h.0)
out_of_memory_only i j Escape e x others h f k = absurd (none_fails i.tokens j.tokens others x _ k h.0)
out_of_memory_only i j Location e x others h f k = absurd (none_fails i.tokens j.tokens others x _ k h.0)
