-- What can follow a token so that the token ends there.
use Rattle.std.specs.Prelude.{◌≡◌, ◌≢◌, ℕ, false, List, slice_index}
use Rattle.graphql_core.specs.declared.tokenizer.token.Kind.{Kind}
use Rattle.graphql_core.specs.declared.tokenizer.token.Kind.TheVariants.{Punctuator, Name, IntValue, FloatValue}
use Rattle.graphql_core.specs.declared.tokenizer.token.Kind.TheVariants.{StringValue, BlockString}
use Rattle.graphql_core.specs.lexical.Lexical.{is_name_continue, EndsRun}

-- The input can follow each token of this kind: it does not continue a name, and it begins with no byte of the run of a
-- number. No quote follows a string, since an empty string and a quote are the opening quotes of a block string.
abbrev pub MayFollow : Kind → List ℕ → Type 0
MayFollow Punctuator rest = Unit {0}
MayFollow Name rest = is_name_continue (slice_index rest 0) ≡ false
MayFollow IntValue rest = EndsRun rest
MayFollow FloatValue rest = EndsRun rest
MayFollow StringValue rest = slice_index rest 0 ≢ 34
MayFollow BlockString rest = Unit {0}
