-- Before any other rest, the source begins with the same tokens at the same positions.
use Rattle.std.proofs.Common.{◌≡◌, ℕ, ◌<◌, true, ◌==◌, List, [], ◌∷◌, ◌++◌, length, drop, refl, sym, ap, subst, ◌∙◌, arith, length-append, length-drop}
use Rattle.std.proofs.Common.{append_assoc, eqb-true, codes}
use Rattle.graphql_core.specs.{items_of, IsTokenizedInto, Token, Spelled, matches, Sym, ParseTree, leaves, accepts, Fits, fits_leaf, fits_both, fits_first}
use Rattle.graphql_core.specs.{fits_second, fits_node, Item, HasItems, start, next_place, kind_number, split}
use Rattle.graphql_core.specs.declared.tokenizer.token.Kind.TheVariants.{Punctuator}
use Rattle.graphql_core.proofs.{TokensKept, EndsInMark, ends_after, tokens_kept, prefix}
use Rattle.std.proofs.lemmas.Bool.{and_parts}
use Rattle.graphql_query.specs.{query, definition_symbol, operation_symbol, operation_body_symbol, selection_set_symbol, fragment_definition_symbol}
use Rattle.graphql_query.specs.{DefinitionTree, text_after, BeginsWith, IsFirstDefinition, BeginsWithDefinition, IsFirstParseTree, BeginsWithParseTree}

-- ---- a definition ends in a punctuator

-- the closing brace
kind_matched : (t : Token) → accepts query (Spelled (kind_number Punctuator) (codes "}")) t ≡ true → t.kind ≡ kind_number Punctuator
kind_matched t h =
    let (of_class, good) = and_parts (matches (Spelled (kind_number Punctuator) (codes "}")) t) _ h in
    let (kind, spelling) = and_parts (kind_number Punctuator == t.kind) _ of_class in
    sym (eqb-true (kind_number Punctuator) t.kind kind)

ends_selection_set : (x : ParseTree) → Fits query (Sym selection_set_symbol) x → EndsInMark (leaves x)
ends_selection_set x (fits_node (fits_both {x = o} (fits_leaf a) (fits_both {x = ss} s (fits_leaf {t = t} c))) check) =
    ends_after (leaves o) (leaves ss ++ t ∷ []) (ends_after (leaves ss) (t ∷ []) (kind_matched t c))

ends_body : (x : ParseTree) → Fits query (Sym operation_body_symbol) x → EndsInMark (leaves x)
ends_body x (fits_node (fits_both {x = n} f (fits_both {x = vs} g (fits_both {x = ds} {y = s} h selected))) check) =
    ends_after (leaves n) _ (ends_after (leaves vs) _ (ends_after (leaves ds) (leaves s) (ends_selection_set s selected)))

ends_operation : (x : ParseTree) → Fits query (Sym operation_symbol) x → EndsInMark (leaves x)
ends_operation x (fits_node (fits_first {x = s} h) check) = ends_selection_set s h
ends_operation x (fits_node (fits_second (fits_first (fits_both {x = w} {y = b} f h))) check) = ends_after (leaves w) (leaves b) (ends_body b h)
ends_operation x (fits_node (fits_second (fits_second (fits_first (fits_both {x = w} {y = b} f h)))) check) = ends_after (leaves w) (leaves b) (ends_body b h)
ends_operation x (fits_node (fits_second (fits_second (fits_second (fits_both {x = w} {y = b} f h)))) check) = ends_after (leaves w) (leaves b) (ends_body b h)

ends_fragment : (x : ParseTree) → Fits query (Sym fragment_definition_symbol) x → EndsInMark (leaves x)
ends_fragment x (fits_node (fits_both {x = w} f (fits_both {x = n} g (fits_both {x = c} h (fits_both {x = ds} {y = s} i selected)))) check) =
    ends_after (leaves w) _ (ends_after (leaves n) _ (ends_after (leaves c) _ (ends_after (leaves ds) (leaves s) (ends_selection_set s selected))))

ends_definition : (x : ParseTree) → Fits query (Sym definition_symbol) x → EndsInMark (leaves x)
ends_definition x (fits_node (fits_first {x = o} h) check) = ends_operation o h
ends_definition x (fits_node (fits_second {y = f} h) check) = ends_fragment f h

-- ---- with any other rest

-- the tokens of the first definition do not depend on the rest
kept_first : (text : List ℕ) (is : List Item) (x : ParseTree) (us : List Token) → HasItems text is → BeginsWith (split is).tokens x us
    → TokensKept start text is (leaves x)
kept_first text is x us (ps, stop, tokenized, e) (fits, parts) =
    subst (λ (l : List Item). TokensKept start text l (leaves x)) (sym e)
    (tokens_kept ps text stop start (leaves x) us tokenized (ap (λ (l : List Item). (split l).tokens) (sym e) ∙ parts) (ends_definition x fits))

-- the rest is shorter than the source
pub shorter : (text : List ℕ) (d : DefinitionTree) (rest : List ℕ) → IsFirstDefinition text (d, rest) → length rest < length text
shorter text d rest (is, has, x, us, begins, means, after) =
    let k = kept_first text is x us has begins in
    let o = (next_place (drop (length (leaves x)) is)).offset in
    omega (arith, k.some, k.within, ap length after, length-drop o text, ap length k.parts, length-append k.a k.b)

pub other_tokens : (text : List ℕ) (x : ParseTree) (rest taken other : List ℕ) → IsFirstParseTree text (x, rest) → text ≡ taken ++ rest
    → BeginsWithParseTree (taken ++ other) x
other_tokens text x rest taken other (is, has, us, begins, after) whole =
    let k = kept_first text is x us has begins in
    let o = (next_place (drop (length (leaves x)) is)).offset in
    let c = drop (length k.a) taken in
    let front = prefix k.a k.b taken rest text k.parts whole (omega (
      arith,
      k.within,
      ap length whole,
      length-append taken rest,
      ap length after,
      length-drop o text,
      ap length k.parts,
      length-append k.a k.b,
    )) in
    let (qs, end, other_tokenized, vs, tokens) = k.again (c ++ other) in
    let same : k.a ++ (c ++ other) ≡ taken ++ other = sym (append_assoc k.a c other) ∙ ap (λ (l : List ℕ). l ++ other) (sym front) in
    let items = items_of start qs end in (
      text_after (length (leaves x)) items (taken ++ other),
      (items, (qs, end, subst (λ (l : List ℕ). IsTokenizedInto l qs end) same other_tokenized, refl), vs, (begins.0, tokens), refl),
    )

pub other_rest : (text : List ℕ) (d : DefinitionTree) (rest taken other : List ℕ) → IsFirstDefinition text (d, rest) → text ≡ taken ++ rest
    → BeginsWithDefinition (taken ++ other) d
other_rest text d rest taken other (is, has, x, us, begins, means, after) whole =
    let (left, (items, other_has, vs, other_begins, other_after)) = other_tokens text x rest taken other (is, has, us, begins, after) whole in
    (left, (items, other_has, x, vs, other_begins, means, other_after))
