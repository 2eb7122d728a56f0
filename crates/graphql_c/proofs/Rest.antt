-- Where the first definition of a source ends.
use Rattle.std.proofs.Common.{◌≡◌, ◌∙◌, ◌+◌, ◌-◌, ◌<◌, ◌≤◌, ℕ, zero, suc, List, [], ◌∷◌, ◌++◌, length, take, drop, inl, inr, IsUtf8, refl}
use Rattle.std.proofs.Common.{length-append, sym, ap, subst, arith}
use Rattle.std.proofs.lemmas.Bool.{cases_lt}
use Rattle.std.proofs.lemmas.List.{length-drop, drop-append-le, take-append-drop}
use Rattle.std.proofs.Math.ListN.{drop_of_length-le}
use Rattle.std.proofs.Math.Seq.{take-append-add, take-append_seam}
use Rattle.std.specs.Str.{IsValidUpTo}
use Rattle.graphql_core.proofs.{Rise, items_rise}
use Rattle.graphql_core.specs.{Token, ParseTree, leaves, Item, HasItems, items_of, start, next_place, split}
use Rattle.graphql_query.specs.{DefinitionTree, IsFirstDefinition}
use Rattle.graphql_query.proofs.documents.Consuming.{one_first}
use Rattle.graphql_c.specs.{EndsAt, EndsWithin}
use Rattle.graphql_c.proofs.Fronts.{Kept, kept}

-- a suffix of n values begins n values before the end of the list
drop_back : (xs : List ℕ) (k : ℕ) → drop (length xs - length (drop k xs)) xs ≡ drop k xs
drop_back xs k = elim (cases_lt (length xs) k) [
  | inl past ↦
      let none : drop k xs ≡ [] = drop_of_length-le xs {i = k} (omega (arith, past)) in
      let whole : length xs - length (drop k xs) ≡ length xs = omega (arith, length-drop k xs, past) in
      ap (λ n. drop n xs) whole ∙ drop_of_length-le xs {i = length xs} (omega arith) ∙ sym none
  | inr within ↦
      let same : length xs - length (drop k xs) ≡ k = omega (arith, length-drop k xs, within) in
      ap (λ n. drop n xs) same
]

pub rest_at : (text rest : List ℕ) (d : DefinitionTree) → IsFirstDefinition text (d, rest) → EndsAt text (length text - length rest)
rest_at text rest d first =
    let (items, has, x, others, begins, means, is) = first in
    let same : rest ≡ drop (length text - length rest) text =
    is ∙ sym (drop_back text _) ∙ ap (λ r. drop (length text - length r) text) (sym is) in
    (omega arith, d, subst (λ r. IsFirstDefinition text (d, r)) same first)

kept_first : (text : List ℕ) (items : List Item) (x : ParseTree) (others : List Token) → HasItems text items → (split items).tokens ≡ leaves x ++ others
    → Kept start text items (leaves x)
kept_first text items x others (ps, stop, tokenized, e) parts =
    subst (λ (l : List Item). Kept start text l (leaves x)) (sym e)
    (kept ps text stop start (leaves x) others tokenized (ap (λ (l : List Item). (split l).tokens) (sym e) ∙ parts))

-- a source is UTF-8 from any token on
utf8_from : (text : List ℕ) (items : List Item) (n : ℕ) → IsUtf8 text → Rise text items → IsUtf8 (drop (next_place (drop n items)).offset text)
utf8_from text [] zero utf8 rise = utf8
utf8_from text [] (suc n) utf8 rise = utf8
utf8_from text (i ∷ is) zero utf8 rise = rise.0.1
utf8_from text (i ∷ is) (suc n) utf8 rise = utf8_from text is n utf8 rise.2

-- a source with more after its rest has the same first definition, and the same rest with more after it
still_first : (text rest more : List ℕ) (d : DefinitionTree) → IsFirstDefinition text (d, rest) → 0 < length rest → IsUtf8 text
    → IsFirstDefinition (text ++ more) (d, rest ++ more)
still_first text rest more d (items, (ps, stop, tokenized, e), x, others, (fits, parts), means, after) some utf8 =
    let k = kept_first text items x others (ps, stop, tokenized, e) parts in
    let on : (next_place (drop (length (leaves x)) items)).offset ≡ k.on = omega (arith, k.here) in
    let is : rest ≡ drop k.on text = rw on at after in
    let within : k.on < length text = omega (arith, some, ap length is, length-drop k.on text) in
    let seam = subst (λ n. IsUtf8 (drop n text)) on (utf8_from text items (length (leaves x)) utf8 (items_rise text items utf8 (ps, stop, tokenized, e))) in
    let (qs, end, longer, us, tokens, at) = k.again within seam more in
    let there : (next_place (drop (length (leaves x)) (items_of start qs end))).offset ≡ k.on = omega (arith, at) in
    let still : drop k.on (text ++ more) ≡ rest ++ more = drop-append-le k.on text more (omega (arith, within)) ∙ ap (λ r. r ++ more) (sym is) in
    (items_of start qs end, (qs, end, longer, refl), x, us, (fits, tokens), means, rw there (sym still))

-- the rest begins at the same offset if more follows it
pub still_at : (text rest more : List ℕ) (d : DefinitionTree) → IsFirstDefinition text (d, rest) → 0 < length rest → IsUtf8 text
    → EndsAt (text ++ more) (length text - length rest)
still_at text rest more d first some utf8 =
    let here = rest_at (text ++ more) (rest ++ more) d (still_first text rest more d first some utf8) in
    let same : length (text ++ more) - length (rest ++ more) ≡ length text - length rest = omega (arith, length-append text more, length-append rest more) in
    subst (EndsAt (text ++ more)) same here

-- a prefix of some bytes, and what follows it
pub begins : (front whole : List ℕ) → front ≡ take (length front) whole → whole ≡ front ++ drop (length front) whole
begins front whole is = sym (ap (λ f. f ++ drop (length front) whole) is ∙ take-append-drop (length front) whole)

-- a source has one end of its first definition
pub ends_once : (text : List ℕ) (m n : ℕ) → EndsAt text m → EndsAt text n → m ≡ n
ends_once text m n (short, d, first) (within, e, other) =
    let same = ap (λ (r : DefinitionTree × List ℕ). length r.1) (one_first text _ _ first other) in
    omega (arith, same, length-drop m text, length-drop n text, short, within)

-- an end before the end of a prefix is an end in the whole source
ends_before : (front more : List ℕ) (n : ℕ) → EndsAt front n → n < length front → IsUtf8 front → EndsAt (front ++ more) n
ends_before front more n (within, d, first) some utf8 =
    let here : length front - length (drop n front) ≡ n = omega (arith, length-drop n front, within) in
    let rest : 0 < length (drop n front) = omega (arith, length-drop n front, some) in
    subst (EndsAt (front ++ more)) here (still_at front (drop n front) more d first rest utf8)

pub shown_at : (text : List ℕ) (n : ℕ) → EndsWithin text n → EndsAt text n
shown_at text n (front, more, is, utf8, at, some) = subst (λ t. EndsAt t n) (sym is) (ends_before front more n at some utf8)

-- the longest prefix that is UTF-8 shows what any such prefix does
pub shown_by : (text valid : List ℕ) (n : ℕ) → valid ≡ take (length valid) text
    → ((front more : List ℕ) → text ≡ front ++ more → IsUtf8 front → length front ≤ length valid) → EndsWithin text n
    → EndsAt valid n × (n < length valid)
shown_by text valid n is longest (front, more, same, utf8, at, some) =
    let long = longest front more same utf8 in
    let all : length valid ≡ length front + (length valid - length front) = omega (arith, long) in
    let parts : valid ≡ front ++ take (length valid - length front) more =
    is ∙ ap (take (length valid)) same ∙ ap (λ k. take k (front ++ more)) all ∙ take-append-add front more _ in
    (subst (λ t. EndsAt t n) (sym parts) (ends_before front _ n at some utf8), omega (arith, some, long))

-- where a prefix that is UTF-8 ends, the longest such prefix does not end before
pub longest_front : (text : List ℕ) (n : ℕ) → IsValidUpTo text n → (front more : List ℕ) → text ≡ front ++ more → IsUtf8 front → length front ≤ n
longest_front text n valid front more same utf8 = elim (cases_lt n (length front)) [
  | inl past ↦
      let taken : take (length front) text ≡ front = ap (take (length front)) same ∙ take-append_seam front more in
      absurd (valid.longest (length front) past (subst IsUtf8 (sym taken) utf8))
  | inr within ↦ within
]
