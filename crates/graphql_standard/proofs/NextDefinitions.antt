-- The next definition after an error.
use Rattle.std.specs.List.{list_all, position_or_len}
use Rattle.std.proofs.Common.{◌≡◌, ◌≢◌, ◌≤◌, ◌<◌, ◌+◌, ◌-◌, ◌⊎◌, ◌↔◌, ◌==◌, ◌||◌, not, ℕ, Bool, true, false, IsTrue, List, [], ◌∷◌, ◌++◌, length, take, drop, Result, Ok, Err, IfOk, Option, Some, MatchOption, Bor}
use Rattle.std.proofs.Common.{refl, sym, ap, ◌∙◌, subst, inl, inr, arith, append_assoc, length-append}
use Rattle.std.proofs.Common.{take-append-drop, take_at}
use Rattle.std.proofs.lemmas.Bool.{and_parts, or_cases, eqb-true, false_from_ne_true}
use Rattle.std.proofs.lemmas.List.Folds.{list_all-append}
use Rattle.graphql_core.specs.{Token, Meaning, Ignored, TokenOf, is_in_line, sample}
use Rattle.graphql_core.specs.lexical.Elements.{element_kind}
use Rattle.graphql_core.specs.declared.tokenizer.token.Kind.{Kind}
use Rattle.graphql_core.specs.declared.tokenizer.token.Kind.TheVariants.{Name}
use Rattle.graphql_core.specs.declared.tokenizer.element.ElementKind.{ElementKind}
use Rattle.graphql_core.specs.declared.tokenizer.element.ElementKind.TheVariants as element
use Rattle.graphql_core.proofs.{false≢true}
use Rattle.graphql_standard.specs.lexical.Elements.{IsElement, BeginsNoneOf, BeginsWithOneOf}
use Rattle.graphql_standard.specs.Places.{EndsInLineEnd, EndsWith}
use Rattle.graphql_standard.specs.Recognizing.{BeginsDocument, Advances}
use Rattle.graphql_standard.specs.Terminals.{IsSpellingOf}
use Rattle.graphql_standard.specs.declared.recognizer.Recognizer.{Recognizer}
use Rattle.std.specs.declared.alloc.AllocError.{AllocError}
use Rattle.graphql_standard.specs.Checking.{token_and, tokens_of, BeginsWithAll}
use Rattle.graphql_standard.specs.AllErrors.{is_blank, StartsLine, IsFirstToken, BeginsDefinition, next_line, Reaches, here, past_element}
use Rattle.graphql_standard.specs.AllErrors.{past_line, IsDefinitionAt, IsDefinition, IsNextDefinition, HasNoDefinition}
use Rattle.graphql_standard.proofs.lexical.Elements.{same_element}
use Rattle.graphql_standard.proofs.lexical.Following.{none_at_end}
use Rattle.graphql_standard.proofs.Tokens.{read_false, token_meaning, element_spelled}

-- ---- the beginning of a line

-- the text ends with a line end and blanks
pub starts : (front below blanks : List ℕ) (b : ℕ) → front ≡ (below ++ b ∷ []) ++ blanks → is_in_line b ≡ false
    → list_all is_blank blanks ≡ true → StartsLine front
starts front below blanks b e ends all = (below ++ b ∷ [], blanks, e, inr (below, b, refl, ends), all)

-- a text of blanks
pub starts_with : (front blanks : List ℕ) → front ≡ [] ++ blanks → list_all is_blank blanks ≡ true → StartsLine front
starts_with front blanks e all = ([], blanks, e, inl refl, all)

in_line : (b : ℕ) → is_blank b ≡ true → is_in_line b ≡ true
in_line b h = first (or_cases (b == 9) _ h)
  where
    is : (n : ℕ) → is_in_line n ≡ true → (b == n) ≡ true → is_in_line b ≡ true
    is n e same = subst (λ (k : ℕ). is_in_line k ≡ true) (sym (eqb-true b n same)) e

    second : ((b == 32) ≡ true) ⊎ ((b == 44) ≡ true) → is_in_line b ≡ true
    second (inl e) = is 32 refl e
    second (inr e) = is 44 refl e

    first : ((b == 9) ≡ true) ⊎ (((b == 32) || (b == 44)) ≡ true) → is_in_line b ≡ true
    first (inl e) = is 9 refl e
    first (inr e) = second (or_cases (b == 32) _ e)

not_all : (g ys : List ℕ) (y : ℕ) → is_blank y ≡ false → list_all is_blank (g ++ y ∷ ys) ≡ true → ⊥
not_all g ys y q h =
    let parts = and_parts (list_all is_blank g) (list_all is_blank (y ∷ ys)) (sym (list_all-append is_blank g (y ∷ ys)) ∙ h) in
    false≢true (sym q ∙ (and_parts (is_blank y) (list_all is_blank ys) parts.1).0)

-- the last bytes that are no blanks are the same
same_last : (f g xs ys : List ℕ) (x y : ℕ) → f ++ x ∷ xs ≡ g ++ y ∷ ys → is_blank x ≡ false → is_blank y ≡ false
    → list_all is_blank xs ≡ true → list_all is_blank ys ≡ true → x ≡ y
same_last [] [] xs ys x y e p q all others = cc
same_last [] (z ∷ g) xs ys x y e p q all others =
    absurd (not_all g ys y q (subst (λ (l : List ℕ). list_all is_blank l ≡ true) (ap (drop 1) e) all))
same_last (z ∷ f) [] xs ys x y e p q all others =
    absurd (not_all f xs x p (subst (λ (l : List ℕ). list_all is_blank l ≡ true) (sym (ap (drop 1) e)) others))
same_last (z ∷ f) (w ∷ g) xs ys x y e p q all others = same_last f g xs ys x y (ap (drop 1) e) p q all others

pub not_starts : (front below blanks : List ℕ) (b : ℕ) → front ≡ (below ++ b ∷ []) ++ blanks → is_blank b ≡ false
    → is_in_line b ≡ true → list_all is_blank blanks ≡ true → StartsLine front → ⊥
not_starts front below blanks b e other inside all (lines, more, f, ends, others) = by ends
  where
    mine : front ≡ below ++ b ∷ blanks
    mine = e ∙ append_assoc below (b ∷ []) blanks

    by : EndsInLineEnd lines → ⊥
    by (inl empty) =
        let whole : front ≡ more = f ∙ ap (λ (l : List ℕ). l ++ more) empty in
        not_all below blanks b other (subst (λ (l : List ℕ). list_all is_blank l ≡ true) (sym whole ∙ mine) others)
    by (inr (g, x, is, last)) =
        let theirs : front ≡ g ++ x ∷ more = f ∙ ap (λ (l : List ℕ). l ++ more) is ∙ append_assoc g (x ∷ []) more in
        let no_blank : is_blank x ≡ false =
        false_from_ne_true (is_blank x) (λ blank. false≢true (sym last ∙ in_line x blank)) in
        let same = same_last g below more blanks x b (sym theirs ∙ mine) no_blank other others all in
        false≢true (sym last ∙ ap is_in_line same ∙ inside)

-- whether a line starts after these blanks
pub starts_after : (front below blanks : List ℕ) (b : ℕ) → front ≡ (below ++ b ∷ []) ++ blanks → is_blank b ≡ false
    → list_all is_blank blanks ≡ true → IsTrue (not (is_in_line b)) ↔ StartsLine front
starts_after front below blanks b e other all = by (is_in_line b) refl
  where
    by : (inside : Bool) → is_in_line b ≡ inside → IsTrue (not inside) ↔ StartsLine front
    by false h = (λ yes. starts front below blanks b e h all, λ line. refl)
    by true h = (λ yes. absurd (false≢true yes), λ line. absurd (not_starts front below blanks b e other h all line))

-- ---- the first token

ignored_tokens : (m : Meaning) (bytes : List ℕ) (kind : ElementKind) (ts : List Token) → element_kind bytes m ≡ kind
    → ((k : Kind) → kind ≡ element.Token k → ⊥) → token_and m bytes ts ≡ ts
ignored_tokens (Ignored x) bytes kind ts is other = refl
ignored_tokens (TokenOf k n) bytes kind ts is other = absurd (other k (sym is))

-- the first token of a text is that after an element that is none
pub more_first : (text bytes after : List ℕ) (kind : ElementKind) → BeginsWithOneOf IsElement text kind bytes after
    → ((k : Kind) → kind ≡ element.Token k → ⊥) → (j : Kind) (b : List ℕ) → IsFirstToken after j b → IsFirstToken text j b
more_first text bytes after kind (m, is, el, kd) other j b (ps, rest, behind, parts, none, begins) = (
  record { bytes = bytes; meaning = m } ∷ ps,
  rest,
  behind,
  (after, is, el, parts),
  ignored_tokens m bytes kind (tokens_of ps) kd other ∙ none,
  begins,
)

same_kind : {a b : List ℕ} {m n : Meaning} → a ≡ b → m ≡ n → element_kind a m ≡ element_kind b n
same_kind {a} {b} {m} {n} e f = ap (λ (l : List ℕ). element_kind l m) e ∙ ap (λ (x : Meaning). element_kind b x) f

pub less_first : (text bytes after : List ℕ) (kind : ElementKind) → BeginsWithOneOf IsElement text kind bytes after
    → ((k : Kind) → kind ≡ element.Token k → ⊥) → (j : Kind) (b : List ℕ) → IsFirstToken text j b → IsFirstToken after j b
less_first text bytes after kind (m, is, el, kd) other j b ([], rest, behind, whole, none, (n, f, fl, kf)) =
    let same = same_element text is (whole ∙ f) (inl el) (inl fl) in
    absurd (other j (sym kd ∙ same_kind same.bytes same.meaning ∙ kf))
less_first text bytes after kind (m, is, el, kd) other j b (p ∷ ps, rest, behind, (next, f, fl, parts), none, begins) =
    let same = same_element text is f (inl el) (inl fl) in
    let piece_kind = sym (same_kind same.bytes same.meaning) ∙ kd in (
      ps,
      rest,
      behind,
      subst (λ (l : List ℕ). BeginsWithAll l ps rest) (sym same.rest) parts,
      sym (ignored_tokens p.meaning p.bytes kind (tokens_of ps) piece_kind other) ∙ none,
      begins,
    )

pub at_token : (text bytes after : List ℕ) (kind : ElementKind) (k : Kind) → BeginsWithOneOf IsElement text kind bytes after
    → kind ≡ element.Token k → IsFirstToken text k bytes
at_token text bytes after kind k (m, is, el, kd) e = ([], text, after, refl, refl, (m, is, el, kd ∙ e))

pub first_spelled : (text bytes after : List ℕ) (kind : ElementKind) (k : Kind) → BeginsWithOneOf IsElement text kind bytes after
    → kind ≡ element.Token k → IsSpellingOf k bytes
first_spelled text bytes after kind k (m, is, el, kd) e = element_spelled m k (kd ∙ e) el

pub no_first : (text : List ℕ) → BeginsNoneOf IsElement text → (k : Kind) (b : List ℕ) → IsFirstToken text k b → ⊥
no_first text stop k b ([], rest, behind, whole, none, (n, f, fl, kf)) = stop b n behind fl (whole ∙ f)
no_first text stop k b (p ∷ ps, rest, behind, (next, f, fl, parts), none, begins) = stop p.bytes p.meaning next fl f

no_kind : (m : Meaning) (bytes : List ℕ) (ts : List Token) → token_and m bytes ts ≡ [] → (k : Kind)
    → element_kind bytes m ≡ element.Token k → ⊥
no_kind m bytes ts e k is =
    let (n, token) = token_meaning bytes m k is in
    let some : token_and (TokenOf k n) bytes ts ≡ [] = ap (λ (x : Meaning). token_and x bytes ts) (sym token) ∙ e in absurd cc

pub same_first : (text : List ℕ) (j k : Kind) (a b : List ℕ) → IsFirstToken text j a → IsFirstToken text k b → (j ≡ k) × (a ≡ b)
same_first text j k a b ([], rest, behind, whole, none, (m, is, el, kd)) ([], other, after, all, empty, (n, f, fl, kf)) =
    let same = same_element text (whole ∙ is) (all ∙ f) (inl el) (inl fl) in
    let kinds : element.Token j ≡ element.Token k = sym kd ∙ same_kind same.bytes same.meaning ∙ kf in
    (cc, same.bytes)
same_first text j k a b ([], rest, behind, whole, none, (m, is, el, kd)) (q ∷ qs, other, after, (next, f, fl, parts), empty, begins) =
    let same = same_element text (whole ∙ is) f (inl el) (inl fl) in
    absurd (no_kind q.meaning q.bytes (tokens_of qs) empty j (sym (same_kind same.bytes same.meaning) ∙ kd))
same_first text j k a b (p ∷ ps, rest, behind, (next, is, el, parts), none, begins) second =
    let left = less_first text p.bytes next (element_kind p.bytes p.meaning) (p.meaning, is, el, refl)
    (no_kind p.meaning p.bytes (tokens_of ps) none) k b second in
    same_first next j k a b
    (ps, rest, behind, parts, sym (ignored_tokens p.meaning p.bytes _ (tokens_of ps) refl (no_kind p.meaning p.bytes (tokens_of ps) none)) ∙ none, begins) left

-- ---- the beginning of a definition

pub begins_before : (t u : Token) → BeginsDocument (t ∷ u ∷ []) → BeginsDocument (t ∷ [])
begins_before t u (x, us, d) = (x, u ∷ us, d)

pub not_first : (t u : Token) (r : Result Bool AllocError) (b : Bool) (k : Recognizer) → r ≡ Ok b → b ≡ false → Advances r [] t k
    → IsTrue false ↔ BeginsDocument (t ∷ u ∷ [])
not_first t u r b k e is h =
    (λ yes. absurd (false≢true yes), λ doc. absurd ((read_false [] t r b k e is h).1 (begins_before t u doc)))

pub both_read : (t u : Token) (r : Result Bool AllocError) (k : Recognizer) → Advances r (t ∷ []) u k
    → IfOk r (λ is. IsTrue is ↔ BeginsDocument (t ∷ u ∷ []))
both_read t u (Ok true) k (read, begins) = (λ yes. begins, λ doc. refl)
both_read t u (Ok false) k (read, none) = (λ yes. absurd (false≢true yes), λ doc. absurd (none doc))
both_read t u (Err e) k h = tt

-- the text begins with this word and has this next token
pub only_definition : (text word after bytes : List ℕ) (kind : ElementKind) (k : Kind) → BeginsWithOneOf IsElement text kind word after
    → IsFirstToken after k bytes → BeginsDefinition text
    → (kind ≡ element.Token Name) × BeginsDocument (sample Name word ∷ sample k bytes ∷ [])
only_definition text word after bytes kind k (m, is, el, kd) first (w, a, j, b, (n, f, fl, kf), next, doc) =
    let same = same_element text is f (inl el) (inl fl) in
    let (kinds, spellings) = same_first after k j bytes b first (subst (λ (l : List ℕ). IsFirstToken l j b) (sym same.rest) next) in (
      sym kd ∙ same_kind same.bytes same.meaning ∙ kf,
      rw (same.bytes, kinds, spellings) doc,
    )

-- no name begins the text, or no token follows it
pub no_definition : (text : List ℕ) → (BeginsDefinition text → ⊥) → IsTrue false ↔ BeginsDefinition text
no_definition text none = (λ yes. absurd (false≢true yes), λ h. absurd (none h))

pub definition_of : (text word after bytes : List ℕ) (kind : ElementKind) (k : Kind) (r : Result Bool AllocError)
    → BeginsWithOneOf IsElement text kind word after → kind ≡ element.Token Name → IsFirstToken after k bytes
    → IfOk r (λ is. IsTrue is ↔ BeginsDocument (sample Name word ∷ sample k bytes ∷ [])) → IfOk r (λ is. IsTrue is ↔ BeginsDefinition text)
definition_of text word after bytes kind k (Err e) begins name first h = tt
definition_of text word after bytes kind k (Ok is) begins name first (to, from) =
    let (m, whole, el, kd) = begins in (
      λ yes. (word, after, k, bytes, (m, whole, el, kd ∙ name), first, to yes),
      λ h. from (only_definition text word after bytes kind k begins first h).1,
    )

pub other_start : (text word after : List ℕ) (kind : ElementKind) → BeginsWithOneOf IsElement text kind word after
    → (kind ≡ element.Token Name → ⊥) → BeginsDefinition text → ⊥
other_start text word after kind (m, is, el, kd) other (w, a, j, b, (n, f, fl, kf), next, doc) =
    let same = same_element text is f (inl el) (inl fl) in other (sym kd ∙ same_kind same.bytes same.meaning ∙ kf)

pub no_next : (text word after : List ℕ) (kind : ElementKind) → BeginsWithOneOf IsElement text kind word after
    → ((k : Kind) (b : List ℕ) → IsFirstToken after k b → ⊥) → BeginsDefinition text → ⊥
no_next text word after kind (m, is, el, kd) none (w, a, j, b, (n, f, fl, kf), next, doc) =
    let same = same_element text is f (inl el) (inl fl) in
    none j b (subst (λ (l : List ℕ). IsFirstToken l j b) (sym same.rest) next)

pub no_start : (text : List ℕ) → BeginsNoneOf IsElement text → BeginsDefinition text → ⊥
no_start text none (w, a, j, b, (n, f, fl, kf), next, doc) = none w n a fl f

-- ---- ends of a text

pub reaches_end : (text end : List ℕ) → Reaches text end → EndsWith text end
reaches_end text end here = ([], refl)
reaches_end text end (past_element {bytes = bytes} {rest = rest} is el more) =
    let (front, e) = reaches_end rest end more in
    (bytes ++ front, is ∙ ap (λ (l : List ℕ). bytes ++ l) e ∙ sym (append_assoc bytes front end))
reaches_end text end (past_line some none more) =
    let (front, e) = reaches_end (next_line text) end more in
    let n = position_or_len (λ b. b == 10) text + 1 in (
      take n text ++ front,
      sym (take-append-drop n text) ∙ ap (λ (l : List ℕ). take n text ++ l) e ∙ sym (append_assoc (take n text) front end),
    )

pub reaches_more : (text end next : List ℕ) → Reaches text end → Reaches end next → Reaches text next
reaches_more text end next here more = more
reaches_more text end next (past_element is el behind) more = past_element is el (reaches_more _ end next behind more)
reaches_more text end next (past_line some none behind) more = past_line some none (reaches_more _ end next behind more)

-- an end that is another one is reached from the next element
pub past_this : (text bytes rest end : List ℕ) (kind : ElementKind) → BeginsWithOneOf IsElement text kind bytes rest → Reaches text end
    → (text ≡ end → ⊥) → Reaches rest end
past_this text bytes rest end kind (m, is, el, kd) here other = absurd (other refl)
past_this text bytes rest end kind (m, is, el, kd) (past_element f fl more) other =
    let same = same_element text is f (inl el) (inl fl) in subst (λ (l : List ℕ). Reaches l end) (sym same.rest) more
past_this text bytes rest end kind (m, is, el, kd) (past_line some none more) other = absurd (none bytes m rest el is)

pub past_rest : (text end : List ℕ) → BeginsNoneOf IsElement text → Reaches text end → (text ≡ end → ⊥) → Reaches (next_line text) end
past_rest text end stop here other = absurd (other refl)
past_rest text end stop (past_element {bytes = bytes} {rest = rest} {m = m} f fl more) other = absurd (stop bytes m rest fl f)
past_rest text end stop (past_line some none more) other = more

pub nothing_left : (text end : List ℕ) → text ≡ [] → Reaches text end → end ≡ []
nothing_left text end e here = e
nothing_left text end e (past_element {bytes = bytes} {rest = rest} {m = m} f fl more) =
    absurd (none_at_end bytes m rest (inl fl) (sym e ∙ f))
nothing_left text end e (past_line some none more) = absurd (some e)

-- ---- the next definition

-- what `is_definition` says of a text before the end
pub definition_at : (source part : List ℕ) (offset : ℕ) (front end : List ℕ) (r : Result Bool AllocError) → source ≡ front ++ end
    → length end < length part → offset ≤ length front → StartsLine front → IfOk r (λ is. IsTrue is ↔ BeginsDefinition end)
    → IfOk r (λ is. IsTrue is ↔ IsDefinitionAt source part offset end)
definition_at source part offset front end (Err e) whole shorter after line h = tt
definition_at source part offset front end (Ok is) whole shorter after line (to, from) = (
  λ yes. record { shorter = shorter; starts = (front, whole, after, line); begins = to yes },
  λ h. from h.begins,
)

same_front : (source front end other : List ℕ) → source ≡ front ++ end → source ≡ other ++ end → front ≡ other
same_front source front end other e f =
    let long : length front ≡ length other =
    omega (arith, ap length e, ap length f, length-append front end, length-append other end) in
    sym (take_at front end (length front) refl) ∙ ap (take (length front)) (sym e ∙ f) ∙ take_at other end (length front) (sym long)

pub not_at : (source part : List ℕ) (offset : ℕ) (front end : List ℕ) → source ≡ front ++ end
    → (length end < length part → offset ≤ length front → StartsLine front → ⊥)
    → IsTrue false ↔ IsDefinitionAt source part offset end
not_at source part offset front end whole none = (λ yes. absurd (false≢true yes), λ h. absurd (by h.shorter h.starts))
  where
    by : length end < length part → ((other : List ℕ) × (source ≡ other ++ end) × (offset ≤ length other) × StartsLine other) → ⊥
    by shorter (other, is, after, line) =
        let same = same_front source front end other whole is in
        none shorter (subst (λ (l : List ℕ). offset ≤ length l) (sym same) after) (subst StartsLine (sym same) line)

-- each definition is reached from this end of the part
abbrev pub AreLeft : (source part : List ℕ) (offset : ℕ) (end : List ℕ) → Type 0
AreLeft source part offset end = (other : List ℕ) → IsDefinition source part offset other → Reaches end other

-- an end at which there is none is not that of a definition
passed : (source part : List ℕ) (offset : ℕ) (end other : List ℕ) (b : Bool) → IsTrue b ↔ IsDefinitionAt source part offset end
    → b ≡ false → IsDefinition source part offset other → end ≡ other → ⊥
passed source part offset end other b (to, from) none is e =
    false≢true (sym none ∙ from (subst (IsDefinitionAt source part offset) (sym e) is.at))

pub next_found : (source part : List ℕ) (offset : ℕ) (end : List ℕ) (b : Bool) → Reaches part end
    → IsTrue b ↔ IsDefinitionAt source part offset end → b ≡ true → AreLeft source part offset end
    → IsNextDefinition source part offset end
next_found source part offset end b reached (to, from) is_one left = record {
  found = record { reached = reached; at = to is_one };
  first = λ other is.
      let (between, e) = reaches_end end other (left other is) in omega (arith, ap length e, length-append between other);
}

pub next_element : (source part : List ℕ) (offset : ℕ) (end bytes rest : List ℕ) (kind : ElementKind) (b : Bool)
    → IsTrue b ↔ IsDefinitionAt source part offset end → b ≡ false → BeginsWithOneOf IsElement end kind bytes rest
    → AreLeft source part offset end → AreLeft source part offset rest
next_element source part offset end bytes rest kind b at none begins left other is =
    past_this end bytes rest other kind begins (left other is) (passed source part offset end other b at none is)

pub next_rest : (source part : List ℕ) (offset : ℕ) (end : List ℕ) (b : Bool) → IsTrue b ↔ IsDefinitionAt source part offset end
    → b ≡ false → BeginsNoneOf IsElement end → AreLeft source part offset end → AreLeft source part offset (next_line end)
next_rest source part offset end b at none stop left other is =
    past_rest end other stop (left other is) (passed source part offset end other b at none is)

pub none_left : (source part : List ℕ) (offset : ℕ) (end : List ℕ) → end ≡ [] → AreLeft source part offset end
    → HasNoDefinition source part offset
none_left source part offset end empty left other is =
    let gone = nothing_left end other empty (left other is) in
    no_start other (subst (BeginsNoneOf IsElement) (sym gone) (λ b m r el e. none_at_end b m r (inl el) e)) is.at.begins

pub ends_more : (source end next : List ℕ) → EndsWith source end → Reaches end next → EndsWith source next
ends_more source end next (front, e) reaches =
    let (between, f) = reaches_end end next reaches in
    (front ++ between, e ∙ ap (λ (l : List ℕ). front ++ l) f ∙ sym (append_assoc front between next))

pub one_element : (text bytes rest : List ℕ) (kind : ElementKind) → BeginsWithOneOf IsElement text kind bytes rest → Reaches text rest
one_element text bytes rest kind (m, is, el, kd) = past_element is el here

pub one_line : (text rest : List ℕ) → text ≢ [] → BeginsNoneOf IsElement text → rest ≡ next_line text → Reaches text rest
one_line text rest some none is = past_line some none (subst (λ (l : List ℕ). Reaches l rest) is here)

pub not_empty : (text : List ℕ) (b : Bool) → b ≡ (length text == 0) → b ≡ false → text ≢ []
not_empty text b is other e = false≢true (sym other ∙ is ∙ ap (λ (l : List ℕ). length l == 0) e)

pub empty : (text : List ℕ) (b : Bool) → b ≡ (length text == 0) → b ≡ true → text ≡ []
empty [] b is e = refl
empty (x ∷ xs) b is e = absurd (omega (arith, eqb-true (length (x ∷ xs)) 0 (sym is ∙ e)))

pub found : (source part : List ℕ) (offset : ℕ) (o : Option (Bor (List ℕ))) (end : Bor (List ℕ))
    → MatchOption o (HasNoDefinition source part offset) (λ e. IsNextDefinition source part offset e.now) → o ≡ Some end
    → IsNextDefinition source part offset end.now
found source part offset o end h is =
    subst (λ (x : Option (Bor (List ℕ))). MatchOption x (HasNoDefinition source part offset)
    (λ e. IsNextDefinition source part offset e.now)) is h
