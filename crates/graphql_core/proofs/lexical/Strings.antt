-- Strings, block strings, and where they end.
use Rattle.std.specs.List.{prefix_len, list_all}
use Rattle.std.proofs.Common.{◌≡◌, ◌≢◌, ℕ, zero, suc, ◌+◌, ◌<◌, ◌≤◌, Bool, true, false, not, ◌||◌, ◌==◌, List, [], ◌∷◌, ◌++◌, length, get_or}
use Rattle.std.proofs.Common.{take, drop, Some, None, refl, sym, ap, ◌∙◌, subst, inl, inr, arith, le_refl, append_assoc, length-append}
use Rattle.std.proofs.lemmas.Bool.{cases_eq, cases_Bool, and_parts}
use Rattle.std.proofs.lemmas.Bool.Decides.{nat_tests}
use Rattle.std.proofs.lemmas.List.{at_drop_all, length-drop, take_at, get_or-append-add}
use Rattle.graphql_core.specs.{begins_quotes, begins_escape, IsStringBody, body_ends, body_character, body_escape, ClosesBlock, closing, escape, unit, is_flat}
use Rattle.graphql_core.specs.{is_plain_in_string, is_plain_in_block, is_in_string, begins_escaped, string_end, block_end, quoted_front}
use Rattle.graphql_core.specs.declared.tokenizer.token.Kind.TheVariants.{StringValue, BlockString}
use Rattle.graphql_core.specs.declared.tokenizer.piece.Nesting.TheVariants.{Unchanged}
use Rattle.graphql_core.specs.steps.Front.{Takes}
use Rattle.graphql_core.proofs.lexical.Runs.{not_equal, run_of, all_weaken, all_append}

-- ---- one byte or unit on

pub string_none : (i : ℕ) (bs : List ℕ) (e : Bool) → length bs ≤ i → string_end i e (drop i bs) ≡ None
unfolding string_end
string_none i bs e h = at_drop_all (string_end i e) bs i h

pub block_none : (i : ℕ) (bs : List ℕ) → length bs ≤ i → block_end i 0 (drop i bs) ≡ None
unfolding block_end
block_none i bs h = at_drop_all (block_end i 0) bs i h

closes_at : (n : ℕ) (bs : List ℕ) → begins_quotes bs ≡ true → block_end n 0 bs ≡ Some (n + 3)
unfolding block_end
closes_at n [] h = absurd cc
closes_at n (b ∷ bs) h = rw h refl

pub block_closes : (i : ℕ) (bs : List ℕ) → begins_quotes (drop i bs) ≡ true → block_end i 0 (drop i bs) ≡ Some (i + 3)
block_closes i bs h = closes_at i (drop i bs) h

-- an escape of three quotes is skipped as one unit
pub skips_escape : (n : ℕ) (bs : List ℕ) → begins_quotes bs ≡ false → begins_escape bs ≡ true → block_end n 0 bs ≡ block_end (n + 4) 0 (drop 4 bs)
unfolding block_end
skips_escape n [] q e = absurd cc
skips_escape n (b ∷ []) q e = absurd (grind (arith, nat_tests))
skips_escape n (b ∷ x ∷ []) q e = absurd (grind (arith, nat_tests))
skips_escape n (b ∷ x ∷ y ∷ []) q e = absurd (grind (arith, nat_tests))
skips_escape n (b ∷ x ∷ y ∷ z ∷ more) q e = rw (q, e) (ap (λ m. block_end m 0 more) (omega arith))

pub skips_unit : (n : ℕ) (bs : List ℕ) → 0 < length bs → begins_quotes bs ≡ false → begins_escape bs ≡ false
    → block_end n 0 bs ≡ block_end (n + 1) 0 (drop 1 bs)
unfolding block_end
skips_unit n [] h q e = absurd (omega arith)
skips_unit n (b ∷ bs) h q e = rw (q, e) refl

plain_quotes : (b : ℕ) (bs : List ℕ) → is_plain_in_block b ≡ true → begins_quotes (b ∷ bs) ≡ false
plain_quotes b [] h = refl
plain_quotes b (x ∷ []) h = refl
plain_quotes b (x ∷ y ∷ more) h = grind (arith, nat_tests)

plain_escape : (b : ℕ) (bs : List ℕ) → is_plain_in_block b ≡ true → begins_escape (b ∷ bs) ≡ false
plain_escape b bs h = grind (arith, nat_tests)

-- bytes that are neither quotes nor backslashes are skipped one after another
pub skips_plain : (n k : ℕ) (bs : List ℕ) → k ≤ prefix_len is_plain_in_block bs → block_end n 0 bs ≡ block_end (n + k) 0 (drop k bs)
unfolding block_end
skips_plain n zero bs h = ap (λ m. block_end m 0 bs) (omega arith)
skips_plain n (suc k) [] h = absurd (omega arith)
skips_plain n (suc k) (b ∷ bs) h =
    elim (cases_Bool (is_plain_in_block b)) [
      | inl pass ↦
          let more : k ≤ prefix_len is_plain_in_block bs = omega (arith, rw pass at h) in
          skips_unit n (b ∷ bs) (omega arith) (plain_quotes b bs pass) (plain_escape b bs pass) ∙ skips_plain (n + 1) k bs more
          ∙ ap (λ m. block_end m 0 (drop k bs)) (omega arith)
      | inr stop ↦ absurd (omega (arith, rw stop at h))
    ]

-- bytes that are neither quotes nor backslashes nor line feeds are skipped one after another
character_on : (n b : ℕ) (bs : List ℕ) → is_in_string b ≡ true → string_end n false (b ∷ bs) ≡ string_end (n + 1) false bs
unfolding string_end
character_on n b bs h = grind (arith, nat_tests)

pub skips_characters : (n k : ℕ) (bs : List ℕ) → k ≤ prefix_len is_in_string bs → string_end n false bs ≡ string_end (n + k) false (drop k bs)
skips_characters n zero bs h = ap (λ m. string_end m false bs) (omega arith)
skips_characters n (suc k) [] h = absurd (omega arith)
skips_characters n (suc k) (b ∷ bs) h =
    elim (cases_Bool (is_in_string b)) [
      | inl pass ↦
          let more : k ≤ prefix_len is_in_string bs = omega (arith, rw pass at h) in
          character_on n b bs pass ∙ skips_characters (n + 1) k bs more ∙ ap (λ m. string_end m false (drop k bs)) (omega arith)
      | inr stop ↦ absurd (omega (arith, rw stop at h))
    ]

pub string_ends : (n : ℕ) (bs : List ℕ) → get_or bs 0 0 ≡ 34 → string_end n false bs ≡ Some (n + 1)
unfolding string_end
string_ends n [] quote = absurd cc
string_ends n (b ∷ bs) quote = grind (arith, nat_tests)

-- a backslash and the byte after it are skipped together
pub skips_escaped : (n : ℕ) (bs : List ℕ) → begins_escaped bs ≡ true → string_end n false bs ≡ string_end (n + 2) false (drop 2 bs)
unfolding string_end
skips_escaped n [] h = absurd cc
skips_escaped n (a ∷ []) h = absurd cc
skips_escaped n (a ∷ b ∷ more) h = grind (arith, nat_tests)

-- any other byte but a quote ends the string
pub no_character : (n : ℕ) (bs : List ℕ) → 0 < length bs → prefix_len is_in_string bs ≡ 0 → begins_escaped bs ≡ false → get_or bs 0 0 ≢ 34
    → string_end n false bs ≡ None
unfolding string_end
no_character n [] some plain escaped other = refl
no_character n (a ∷ []) some plain escaped other = grind (arith, nat_tests)
no_character n (a ∷ b ∷ more) some plain escaped other = grind (arith, nat_tests)

-- ---- strings

pub string_closes : {body : List ℕ} → IsStringBody body → (n : ℕ) (rest : List ℕ) → string_end n false (body ++ 34 ∷ rest) ≡ Some (n + length body + 1)
unfolding string_end
string_closes body_ends n rest = ap Some (omega arith)
string_closes (body_character {b} {more} q k l body) n rest =
    rw (not_equal b 10 l, not_equal b 34 q, not_equal b 92 k) (string_closes body (n + 1) rest ∙ ap Some (omega arith))
string_closes (body_escape {b} {more} l body) n rest =
    rw (not_equal b 10 l) (string_closes body (n + 1 + 1) rest ∙ ap Some (omega arith))

abbrev IsBody : Bool → List ℕ → Type 0
IsBody false body = IsStringBody body
IsBody true [] = ⊥
IsBody true (b ∷ more) = (b ≢ 10) × IsStringBody more

-- after n bytes of a string; e is whether the last of them is an escaping backslash
pub record HasBody (e : Bool) (n m : ℕ) (bs : List ℕ) : Type 0 where
  pub body : List ℕ
  pub rest : List ℕ
  pub is : bs ≡ body ++ 34 ∷ rest
  pub valid : IsBody e body
  pub len : m ≡ n + length body + 1

one_more : (e f : Bool) (n m b : ℕ) (bs : List ℕ) → ((body : List ℕ) → IsBody f body → IsBody e (b ∷ body)) → HasBody f (n + 1) m bs → HasBody e n m (b ∷ bs)
one_more e f n m b bs valid h = record {
  body = b ∷ h.body;
  rest = h.rest;
  is = ap (λ l. b ∷ l) h.is;
  valid = valid h.body h.valid;
  len = h.len ∙ omega arith;
}

after_backslash : (b : ℕ) (body : List ℕ) → b ≡ 92 → IsBody true body → IsBody false (b ∷ body)
after_backslash b [] e h = absurd h
after_backslash b (c ∷ cs) e (l, more) = subst (λ x. IsStringBody (x ∷ c ∷ cs)) (sym e) (body_escape l more)

same_end : (m n : ℕ) → Some m ≡ Some n → m ≡ n
same_end m n e = cc

pub string_found : (bs : List ℕ) (e : Bool) (n m : ℕ) → string_end n e bs ≡ Some m → HasBody e n m bs
unfolding string_end
string_found [] e n m h = absurd cc
string_found (b ∷ bs) true n m h =
    elim (cases_eq b 10) [
      | inl feed ↦ absurd (let k = rw feed at h in cc)
      | inr l ↦ one_more true false n m b bs (λ body v. (l, v)) (string_found bs false (n + 1) m (rw (not_equal b 10 l) at h))
    ]
string_found (b ∷ bs) false n m h =
    elim (cases_eq b 10) [
      | inl feed ↦ absurd (let k = rw feed at h in cc)
      | inr l ↦
          elim (cases_eq b 34) [
            | inl quote ↦ record {
              body = [];
              rest = bs;
              is = ap (λ x. x ∷ bs) quote;
              valid = body_ends;
              len = same_end m (n + 1) (sym (rw quote at h))
                  ∙ omega arith;
            }
            | inr q ↦
                elim (cases_eq b 92) [
                  | inl slash ↦ one_more false true n m b bs (λ body v. after_backslash b body slash v) (string_found bs true (n + 1) m (rw slash at h))
                  | inr k ↦ one_more false false n m b bs (λ body v. body_character q k l v)
                      (string_found bs false (n + 1) m (rw (not_equal b 10 l, not_equal b 34 q, not_equal b 92 k) at h))
                ]
          ]
    ]

-- ---- block strings

-- at least three bytes
abbrev Three : List ℕ → Type 0
Three bs = (x y z : ℕ) × (more : List ℕ) × (bs ≡ x ∷ y ∷ z ∷ more)

closes_three : {body : List ℕ} → ClosesBlock body → Three body
closes_three closing = (34, 34, 34, [], refl)
closes_three (escape {more} c) = (92, 34, 34, 34 ∷ more, refl)
closes_three (unit {b} {more} q e c) =
    let (x, y, z, m, is) = closes_three c in
    (b, x, y, z ∷ m, ap (λ l. b ∷ l) is)

-- three bytes decide what begins there
quotes_front : (b : ℕ) (body rest : List ℕ) → Three body → begins_quotes (b ∷ (body ++ rest)) ≡ begins_quotes (b ∷ body)
quotes_front b body rest (x, y, z, more, is) = rw is refl

escape_front : (b : ℕ) (body rest : List ℕ) → Three body → begins_escape (b ∷ (body ++ rest)) ≡ begins_escape (b ∷ body)
escape_front b body rest (x, y, z, more, is) = rw is refl

pub block_closed : {body : List ℕ} → ClosesBlock body → (n : ℕ) (rest : List ℕ) → block_end n 0 (body ++ rest) ≡ Some (n + length body)
unfolding block_end
block_closed closing n rest = refl
block_closed (escape {more} c) n rest = block_closed c (n + 1 + 1 + 1 + 1) rest ∙ ap Some (omega arith)
block_closed (unit {b} {more} q e c) n rest =
    let three = closes_three c in
    rw (quotes_front b more rest three, q, escape_front b more rest three, e) (block_closed c (n + 1) rest ∙ ap Some (omega arith))

pub record HasBlock (n m : ℕ) (bs : List ℕ) : Type 0 where
  pub body : List ℕ
  pub rest : List ℕ
  pub is : bs ≡ body ++ rest
  pub closes : ClosesBlock body
  pub len : m ≡ n + length body

add_unit : (n m b : ℕ) (bs : List ℕ) → begins_quotes (b ∷ bs) ≡ false → begins_escape (b ∷ bs) ≡ false → HasBlock (n + 1) m bs → HasBlock n m (b ∷ bs)
add_unit n m b bs q e h =
    let three = closes_three h.closes in
    record {
      body = b ∷ h.body;
      rest = h.rest;
      is = ap (λ l. b ∷ l) h.is;
      closes = unit (sym (quotes_front b h.body h.rest three) ∙ ap (λ l. begins_quotes (b ∷ l)) (sym h.is) ∙ q)
          (sym (escape_front b h.body h.rest three) ∙ ap (λ l. begins_escape (b ∷ l)) (sym h.is) ∙ e) h.closes;
      len = h.len ∙ omega arith;
    }

add_escape : (n m b x y z : ℕ) (more : List ℕ) → begins_escape (b ∷ x ∷ y ∷ z ∷ more) ≡ true → HasBlock (n + 4) m more → HasBlock n m (b ∷ x ∷ y ∷ z ∷ more)
add_escape n m b x y z more e h =
    let eb : b ≡ 92 = grind (arith, nat_tests) in
    let ex : x ≡ 34 = grind (arith, nat_tests) in
    let ey : y ≡ 34 = grind (arith, nat_tests) in
    let ez : z ≡ 34 = grind (arith, nat_tests) in
    record {
      body = 92 ∷ 34 ∷ 34 ∷ 34 ∷ h.body;
      rest = h.rest;
      is = rw (eb, ex, ey, ez, h.is) refl;
      closes = escape h.closes;
      len = h.len ∙ omega arith;
    }

add_quotes : (n m a b c : ℕ) (more : List ℕ) → begins_quotes (a ∷ b ∷ c ∷ more) ≡ true → m ≡ n + 3 → HasBlock n m (a ∷ b ∷ c ∷ more)
add_quotes n m a b c more h e =
    let ea : a ≡ 34 = grind (arith, nat_tests) in
    let eb : b ≡ 34 = grind (arith, nat_tests) in
    let ec : c ≡ 34 = grind (arith, nat_tests) in
    record { body = 34 ∷ 34 ∷ 34 ∷ []; rest = more; is = rw (ea, eb, ec) refl; closes = closing; len = e }

quotes_block : (n m : ℕ) (bs : List ℕ) → begins_quotes bs ≡ true → m ≡ n + 3 → HasBlock n m bs
quotes_block n m [] h e = absurd cc
quotes_block n m (a ∷ []) h e = absurd cc
quotes_block n m (a ∷ b ∷ []) h e = absurd cc
quotes_block n m (a ∷ b ∷ c ∷ more) h e = add_quotes n m a b c more h e

escape_block : (n m : ℕ) (bs : List ℕ) → begins_escape bs ≡ true → HasBlock (n + 4) m (drop 4 bs) → HasBlock n m bs
escape_block n m [] e h = absurd cc
escape_block n m (b ∷ []) e h = absurd (grind (arith, nat_tests))
escape_block n m (b ∷ x ∷ []) e h = absurd (grind (arith, nat_tests))
escape_block n m (b ∷ x ∷ y ∷ []) e h = absurd (grind (arith, nat_tests))
escape_block n m (b ∷ x ∷ y ∷ z ∷ more) e h = add_escape n m b x y z more e h

-- in at most k bytes
block_in : (k n m : ℕ) (bs : List ℕ) → length bs ≤ k → block_end n 0 bs ≡ Some m → HasBlock n m bs
unfolding block_end
block_in k n m [] le h = absurd cc
block_in zero n m (b ∷ bs) le h = absurd (omega arith)
block_in (suc k) n m (b ∷ bs) le h =
    elim (cases_Bool (begins_quotes (b ∷ bs))) [
      | inl q ↦ quotes_block n m (b ∷ bs) q (same_end m (n + 3) (sym h ∙ closes_at n (b ∷ bs) q))
      | inr q ↦
          elim (cases_Bool (begins_escape (b ∷ bs))) [
            | inl e ↦ escape_block n m (b ∷ bs) e (block_in k (n + 4) m (drop 3 bs) (omega (arith, length-drop 3 bs)) (sym (skips_escape n (b ∷ bs) q e) ∙ h))
            | inr e ↦ add_unit n m b bs q e (block_in k (n + 1) m bs (omega arith) (rw (q, e) at h))
          ]
    ]

pub block_found : (bs : List ℕ) (n m : ℕ) → block_end n 0 bs ≡ Some m → HasBlock n m bs
block_found bs n m h = block_in (length bs) n m bs (le_refl (length bs)) h

-- a block string ends with a quote
pub block_last : {body : List ℕ} → ClosesBlock body → (front : List ℕ) × (body ≡ front ++ 34 ∷ [])
block_last closing = (34 ∷ 34 ∷ [], refl)
block_last (escape c) = let r = block_last c in (92 ∷ 34 ∷ 34 ∷ 34 ∷ r.0, ap (λ l. 92 ∷ 34 ∷ 34 ∷ 34 ∷ l) r.1)
block_last (unit {b} q e c) = let r = block_last c in (b ∷ r.0, ap (λ l. b ∷ l) r.1)

-- ---- which of the two begins

pub no_second_quote : (a b : ℕ) (more : List ℕ) → b ≢ 34 → begins_quotes (a ∷ b ∷ more) ≡ false
no_second_quote a b [] h = refl
no_second_quote a b (c ∷ more) h = grind (arith, nat_tests)

-- after the opening quote of a string
string_quotes : {body : List ℕ} → IsStringBody body → (rest : List ℕ) → (body ≡ [] → get_or rest 0 0 ≢ 34) → begins_quotes (34 ∷ (body ++ 34 ∷ rest)) ≡ false
string_quotes body_ends [] h = refl
string_quotes body_ends (c ∷ rest) h = let no_quote : c ≢ 34 = h refl in grind (arith, nat_tests)
string_quotes (body_character {b} {more} q k l body) rest h = no_second_quote 34 b (more ++ 34 ∷ rest) q
string_quotes (body_escape {b} {more} l body) rest h = refl

pub string_front : {body : List ℕ} → IsStringBody body → (rest : List ℕ) → (body ≡ [] → get_or rest 0 0 ≢ 34)
    → quoted_front (34 ∷ (body ++ 34 ∷ rest)) ≡ Takes (length body + 2) StringValue Unchanged
unfolding quoted_front
string_front {body} valid rest h =
    rw (string_quotes valid rest h, string_closes valid 0 rest) (ap (λ n. Takes n StringValue Unchanged) (omega arith))

pub block_front : {body : List ℕ} → ClosesBlock body → (rest : List ℕ)
    → quoted_front (34 ∷ 34 ∷ 34 ∷ (body ++ rest)) ≡ Takes (length body + 3) BlockString Unchanged
unfolding quoted_front
block_front {body} closes rest = rw (block_closed closes 0 rest) (ap (λ n. Takes n BlockString Unchanged) (omega arith))

-- ---- strings in ASCII with no escape

plain_body : (run : List ℕ) → list_all is_plain_in_string run ≡ true → IsStringBody run
plain_body [] all = body_ends
plain_body (b ∷ bs) all =
    let (here, more) = and_parts (is_plain_in_string b) (list_all is_plain_in_string bs) all in
    let differs : (k : ℕ) → is_plain_in_string k ≡ false → b ≢ k = λ k stop e. absurd (let pass = rw e at here in cc) in
    body_character (differs 34 refl) (differs 92 refl) (differs 10 refl) (plain_body bs more)

flat_in_string : (b : ℕ) → is_plain_in_string b ≡ true → is_flat b ≡ true
flat_in_string b h = (and_parts (is_flat b) (not (b == 34 || b == 92)) h).0

first_is : (c : ℕ) (xs : List ℕ) → 0 < c → get_or xs 0 0 ≡ c → (more : List ℕ) × (xs ≡ c ∷ more)
first_is c [] some e = absurd (omega arith)
first_is c (x ∷ xs) some e = (xs, ap (λ y. y ∷ xs) e)

-- a run of such bytes before a quote
record PlainRun (bs : List ℕ) (k : ℕ) : Type 0 where
  run : List ℕ
  rest : List ℕ
  is : bs ≡ run ++ 34 ∷ rest
  all : list_all is_plain_in_string run ≡ true
  len : length run ≡ k

plain_run : (bs : List ℕ) (k : ℕ) → k ≡ prefix_len is_plain_in_string bs → get_or bs k 0 ≡ 34 → PlainRun bs k
plain_run bs k e last =
    let r = run_of is_plain_in_string bs in
    let at : k ≡ length r.0 + 0 = omega (arith, r.4) in
    let quote : get_or r.1 0 0 ≡ 34 = sym (get_or-append-add r.0 r.1 0 0) ∙ rw (← r.2, ← at) last in
    let (rest, is) = first_is 34 r.1 (omega arith) quote in
    record { run = r.0; rest = rest; is = r.2 ∙ ap (λ l. r.0 ++ l) is; all = r.3; len = sym (e ∙ r.4) }

pub plain_string : (bs : List ℕ) (k : ℕ) → k ≡ prefix_len is_plain_in_string bs → get_or bs k 0 ≡ 34 → k ≢ 0
    → quoted_front (34 ∷ bs) ≡ Takes (k + 1 + 1) StringValue Unchanged
plain_string bs k e last some =
    let r = plain_run bs k e last in
    ap (λ l. quoted_front (34 ∷ l)) r.is
    ∙ string_front (plain_body r.run r.all) r.rest (λ none. absurd (some (sym r.len ∙ ap length none)))
    ∙ ap (λ n. Takes n StringValue Unchanged) (omega (arith, r.len))

pub plain_flat : (bs : List ℕ) (k : ℕ) → k ≡ prefix_len is_plain_in_string bs → get_or bs k 0 ≡ 34 → list_all is_flat (take (k + 1) bs) ≡ true
plain_flat bs k e last =
    let r = plain_run bs k e last in
    let body = r.run ++ 34 ∷ [] in
    let whole : bs ≡ body ++ r.rest = r.is ∙ sym (append_assoc r.run (34 ∷ []) r.rest) in
    let len : length body ≡ k + 1 = omega (arith, r.len, length-append r.run (34 ∷ [])) in
    let taken : take (k + 1) bs ≡ body = ap (take (k + 1)) whole ∙ take_at body r.rest (k + 1) len in
    let flat = all_weaken is_plain_in_string is_flat flat_in_string r.run r.all in
    rw taken (all_append is_flat r.run (34 ∷ []) flat refl)
