use denote.Text.{Utf8}
use denote.Shadow.{shadow}
use Rattle.std.proofs.Common.{length}
use Rattle.graphql_standard.specs.lexical.Strings.{IsStringBody}
use Rattle.graphql_standard.proofs.tokenizer.string.is_string_body.Given as goal

-- the rest can be in a string exactly if the whole can
abbrev pub invariant-escapes : goal.invariant-escapes
invariant-escapes l = record {
  text : shadow (Utf8 l.rest);
  forth : IsStringBody l.rest → IsStringBody l.body;
  back : IsStringBody l.body → IsStringBody l.rest;
}

abbrev pub decreases-escapes : goal.decreases-escapes
decreases-escapes l = length l.rest
