-- What a language must show once, so that the theory of grammars holds for it.
use Rattle.std.specs.Prelude.{◌≡◌, ℕ, true, false}
use Rattle.graphql_core.specs.grammar.{unchecked, lax, row, Expr, Sym, ParseTree, Token, Class, AnyOf}
use Rattle.graphql_core.specs.theory.{with_rows, EachIsFactored, RejectsTokens, LeavesAlone, Extends}
use Rattle.graphql_core.specs.theory.{is_tight, is_ll1, is_productive, decides, has_samples}
use Rattle.graphql_core.specs.sources.{CauseText, FaultText, unknown_location}
use Rattle.graphql_core.specs.values.{is_good, shared, shared_symbols, location_class}
use Rattle.graphql_core.specs.documents.Languages.{Language, reading}
use Rattle.graphql_core.specs.documents.Faults.{HasNoValue}

-- the factored rule of a whole document
abbrev pub factored_document_rule : {D : Type 0} → Language D → Expr
factored_document_rule l = (row (reading l) l.document).rule

pub record IsReadable {D : Type 0} (l : Language D) : Type 0 where
  -- computed tests of the factored rules
  pub ll1 : is_ll1 l.factored_rows ≡ true
  pub tight : is_tight l.factored_rows ≡ true
  pub productive : is_productive (reading l) ≡ true
  pub productive_lax : is_productive (with_rows (lax l.grammar) l.factored_rows l.changes) ≡ true
  -- a whole document can be read, and has samples
  pub decides : decides l.factored_rows (Sym l.document) ≡ true
  pub samples : has_samples (reading l) (Sym l.document) ≡ true
  pub samples_lax : has_samples (with_rows (lax l.grammar) l.factored_rows l.changes) (Sym l.document) ≡ true
  -- the factored rules have the trees of the written ones, whatever is tested
  pub each : EachIsFactored l.grammar l.factored_rows l.changes
  pub each_unchecked : EachIsFactored (unchecked l.grammar) l.factored_rows l.changes
  pub each_lax : EachIsFactored (lax l.grammar) l.factored_rows l.changes
  -- the grammar extends that of values, types and directives, and leaves its trees alone
  pub goes_on : Extends shared_symbols shared (reading l)
  pub alone : LeavesAlone shared_symbols shared l.changes
  -- a token is good for the class of all tokens of its kind exactly if it is good as a leaf of a value
  pub good : (k : ℕ) (t : Token) → l.grammar.good (AnyOf k) t ≡ is_good (AnyOf k) t
  -- Such a token is rejected for the cause for which it has no value. Each leaf is rejected for one cause.
  pub lacks : (k : ℕ) (t : Token) (c : CauseText) → HasNoValue t c → l.lacks (AnyOf k) t c
  pub one_cause : (leaf : Class) (t : Token) (c d : CauseText) → l.lacks leaf t c → l.lacks leaf t d → c ≡ d
  -- a name that is rejected as a location has the cause of an unknown location
  pub location : (t : Token) → l.grammar.good location_class t ≡ false → l.lacks location_class t unknown_location
  -- no node without tokens is rejected, and no whole document
  pub rejects_tokens : RejectsTokens l.grammar
  pub passes : (x : ParseTree) → l.grammar.check l.document x ≡ true
  -- a rejected node has one error
  pub one_said : (node : ParseTree) (f g : FaultText) → l.rejects node f → l.rejects node g → f ≡ g
