use Rattle.std.specs.Str.{chars}
use Rattle.std.proofs.Common.{◌≡◌, ℕ, List, ◌∷◌, replicate, take, refl, subst}
use Rattle.graphql_core.specs.{Item, HasItems, start, front, comment, other_token, number, is_float, is_unsigned}
use Rattle.graphql_core.specs.{is_after_integer, is_after_dot, quoted_front, string_end, block_end, items, items_in}
use Rattle.graphql_core.proofs.{has_items}
use Rattle.graphql_core.proofs.tokenizer.laws.worked_examples.Goals as goal

-- the items of an input are those that the step function computes
computed : (text : List ℕ) (found : List Item) → items start text ≡ found → HasItems text found
computed text found e = subst (HasItems text) e (has_items text)

pub returns : goal.returns
unfolding items items_in front comment other_token number is_float is_unsigned is_after_integer is_after_dot quoted_front string_end block_end chars
returns c = record {
  empty = computed _ _ refl;
  ignored_alone = computed _ _ refl;
  comment_return_feed = computed _ _ refl;
  comment_return = computed _ _ refl;
  byte_order_mark = computed _ _ refl;
  return_alone = computed _ _ refl;
  bad_character = computed _ _ refl;
  too_deep = (take 50 (items start (replicate 51 123)), refl, refl, computed _ _ refl);
  closed_first = (take 52 (items start (125 ∷ replicate 51 123)), refl, refl, computed _ _ refl);
  integers = (computed _ _ refl, computed _ _ refl, computed _ _ refl);
  bad_integers = (computed _ _ refl, computed _ _ refl);
  floats = (computed _ _ refl, computed _ _ refl, computed _ _ refl);
  bad_floats = (computed _ _ refl, computed _ _ refl);
  long_runs = (computed _ _ refl, computed _ _ refl, computed _ _ refl);
  bare_dot = computed _ _ refl;
  no_break_space = computed _ _ refl;
  character_in_string = computed _ _ refl;
  unterminated_string = computed _ _ refl;
  unterminated_block = computed _ _ refl;
  quote_in_block = computed _ _ refl;
  quote_after_block = computed _ _ refl;
  lines_in_block = computed _ _ refl;
  punctuators = computed _ _ refl;
}
