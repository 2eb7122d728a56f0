-- The bytes between the quotes of a string, from left to right.
use Rattle.std.specs.List.{list_all}
use Rattle.std.proofs.Common.{◌≡◌, ◌≢◌, ℕ, suc, ◌<◌, true, false, List, [], ◌∷◌, ◌++◌, length, get_or, refl, sym, ap, subst, arith}
use Rattle.std.proofs.lemmas.Bool.{and_parts}
use Rattle.std.proofs.lemmas.Bool.Decides.{nat_tests}
use Rattle.std.proofs.lemmas.List.{append-nil}
use Rattle.graphql_standard.specs.lexical.Strings.{IsEscape, IsStringCharacter, source_character, escaped_character, HasStringValue}
use Rattle.graphql_standard.specs.lexical.Strings.{no_characters, character_then, IsStringBody}
use Rattle.graphql_standard.specs.steps.Escapes.{is_source_byte, BeginsEscape, BeginsNoEscape}
use Rattle.graphql_standard.proofs.lexical.Escapes.{escape_rest}

-- ---- bytes that denote themselves

source_byte : (b : ℕ) → b ≢ 34 → b ≢ 92 → b ≢ 10 → b ≢ 13 → is_source_byte b ≡ true
source_byte b h1 h2 h3 h4 = grind (arith, nat_tests)

source_is : (b : ℕ) → is_source_byte b ≡ true → IsStringCharacter (b ∷ []) (b ∷ [])
source_is b h = source_character (λ e. no_source b h e refl) (λ e. no_source b h e refl) (λ e. no_source b h e refl) (λ e. no_source b h e refl)
  where
    no_source : (b : ℕ) {k : ℕ} → is_source_byte b ≡ true → b ≡ k → is_source_byte k ≡ false → ⊥
    no_source b h e none = let same = ap is_source_byte e in cc

pub plain_then : (p rest : List ℕ) → list_all is_source_byte p ≡ true → IsStringBody rest → IsStringBody (p ++ rest)
plain_then [] rest all h = h
plain_then (b ∷ p) rest all h =
    let (here, more) = and_parts (is_source_byte b) (list_all is_source_byte p) all in
    let (value, v) = plain_then p rest more h in
    (b ∷ value, character_then (source_is b here) v)

pub plain_body : (p : List ℕ) → list_all is_source_byte p ≡ true → IsStringBody p
plain_body p all = subst IsStringBody (append-nil p) (plain_then p [] all ([], no_characters))

pub escape_then : (text after : List ℕ) (c : ℕ) → BeginsEscape text c after → IsStringBody after → IsStringBody (92 ∷ text)
escape_then text after c (escape, s, is) (value, v) =
    subst IsStringBody (ap (λ t. 92 ∷ t) (sym is)) (_, character_then (escaped_character s) v)

-- ---- the first character

-- a byte that denotes itself, or a backslash and an escape; and then more characters
data Front (b : ℕ) (more : List ℕ) : Type 0 where
  itself : is_source_byte b ≡ true → IsStringBody more → Front b more
  escaped : b ≡ 92 → (escape rest : List ℕ) (c : ℕ) → IsEscape escape c → more ≡ escape ++ rest → IsStringBody rest → Front b more

front : {all v : List ℕ} → HasStringValue all v → (b : ℕ) (more : List ℕ) → all ≡ b ∷ more → Front b more
front no_characters b more e = absurd cc
front (character_then {body} {value} (source_character {b} h1 h2 h3 h4) v) k more e =
    let first : b ≡ k = cc in
    let rest : body ≡ more = cc in
    itself (subst (λ (x : ℕ). is_source_byte x ≡ true) first (source_byte b h1 h2 h3 h4)) (subst IsStringBody rest (value, v))
front (character_then {body} {value} (escaped_character {escape} {c} s) v) k more e =
    let first : 92 ≡ k = cc in
    let rest : escape ++ body ≡ more = cc in
    escaped (sym first) escape body c s (sym rest) (value, v)

-- a byte other than a backslash
source_on : (b : ℕ) (more : List ℕ) → b ≢ 92 → IsStringBody (b ∷ more) → (is_source_byte b ≡ true) × IsStringBody more
source_on b more other (value, v) =
    elim (front v b more refl) [
      | itself h rest ↦ (h, rest)
      | escaped first escape rest c s is h ↦ absurd (other first)
    ]

pub past_plain : (p rest : List ℕ) → ((i : ℕ) → i < length p → get_or p i 0 ≢ 92) → IsStringBody (p ++ rest) → (list_all is_source_byte p ≡ true) × IsStringBody rest
past_plain [] rest none h = (refl, h)
past_plain (b ∷ p) rest none h =
    let (here, more) = source_on b (p ++ rest) (none 0 (omega arith)) h in
    let (all, body) = past_plain p rest (λ i l. none (suc i) (omega arith)) more in
    (rw (here, all) refl, body)

pub past_escape : (text after : List ℕ) (c : ℕ) → BeginsEscape text c after → IsStringBody (92 ∷ text) → IsStringBody after
past_escape text after c (e, s, is) (value, v) =
    elim (front v 92 text refl) [
      | itself h rest ↦ absurd cc
      | escaped first f rest d t us h ↦ subst IsStringBody (escape_rest text f rest e after t s us is) h
    ]

pub no_escape : (text : List ℕ) → BeginsNoEscape text → IsStringBody (92 ∷ text) → ⊥
no_escape text none (value, v) =
    elim (front v 92 text refl) [
      | itself h rest ↦ absurd cc
      | escaped first f rest d t us h ↦ none f rest d t us
    ]
