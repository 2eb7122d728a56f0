-- Spaces at the front of an input, and the quick test for ignored text.
use Rattle.std.specs.Str.{IsCharBoundary}
use Rattle.std.specs.Char.{is_ascii_digit}
use Rattle.std.specs.List.{prefix_len}
use Rattle.std.proofs.Common.{◌≡◌, ℕ, zero, suc, ◌+◌, ◌<◌, Bool, true, false, cond, ◌&&◌, ◌||◌, ◌==◌, List, ◌∷◌, Option, Some, None, get_or}
use Rattle.std.proofs.Common.{IsUtf8, refl, ap, subst, arith, eqb-true, IfSome}
use Rattle.std.proofs.lemmas.Bool.Decides.{nat_tests}
use Rattle.std.proofs.lemmas.List.Sums.{prefix_len-le-length, prefix_len_passes}
use Rattle.std.proofs.lemmas.Str.{IsCharBoundary-start, IsCharBoundary-after_ascii}
use Rattle.graphql_core.specs.declared.tokenizer.token.Kind.{Kind}
use Rattle.graphql_core.specs.declared.tokenizer.piece.Skipped.{Skipped}
use Rattle.graphql_core.specs.steps.Front.{FrontElement, AtEnd, Skips, Takes, Stops}
use Rattle.graphql_core.specs.{is_name_start, is_punctuator_byte, is_integer, begins_quotes, is_float, number, closed, quoted_front, front, other_token, FitsIn}
use Rattle.graphql_core.specs.{IsItem, is_flat, run_at, is_space, ignored_front, FitsIgnored}
use Rattle.graphql_core.proofs.lexical.FrontFits.{front_fits}

pub flat_below : (b : ℕ) → is_flat b ≡ true → b < 128
flat_below b h = grind (arith, nat_tests)

-- spaces end before a character
pub spaces_boundary : (bytes : List ℕ) (n : ℕ) → IsUtf8 bytes → n ≡ prefix_len is_space bytes → IsCharBoundary bytes n
spaces_boundary bytes zero utf8 e = IsCharBoundary-start bytes utf8
spaces_boundary bytes (suc n) utf8 e =
    let last : get_or bytes n 0 ≡ 32 = eqb-true _ _ (prefix_len_passes is_space bytes n 0 (omega arith)) in
    let more : n + 1 ≡ suc n = omega arith in
    subst (IsCharBoundary bytes) more (IsCharBoundary-after_ascii bytes n utf8 (omega (arith, prefix_len-le-length is_space bytes)) (omega arith))

pub found_boundary : (bytes : List ℕ) (x : Option ℕ) → IsUtf8 bytes → IfSome x (λ n. n ≡ prefix_len is_space bytes) → IfSome x (λ n. IsCharBoundary bytes n)
found_boundary bytes None utf8 e = tt
found_boundary bytes (Some n) utf8 e = spaces_boundary bytes n utf8 e

-- flat bytes end before a character
pub flat_boundary : (bytes : List ℕ) (n : ℕ) → IsUtf8 bytes → n ≡ prefix_len is_flat bytes → IsCharBoundary bytes n
flat_boundary bytes zero utf8 e = IsCharBoundary-start bytes utf8
flat_boundary bytes (suc n) utf8 e =
    let last : get_or bytes n 0 < 128 = flat_below _ (prefix_len_passes is_flat bytes n 0 (omega arith)) in
    let more : n + 1 ≡ suc n = omega arith in
    subst (IsCharBoundary bytes) more (IsCharBoundary-after_ascii bytes n utf8 (omega (arith, prefix_len-le-length is_flat bytes)) last)

-- ---- the quick test

pub item_first : (x : FrontElement) → ignored_front x ≡ None → IsItem x
item_first AtEnd e = tt
item_first Stops e = tt
item_first (Skips n m) e = absurd cc
item_first (Takes n k t) e = tt

back : Option Skipped → FrontElement
back None = Stops
back (Some s) = Skips s.len s.by

pub skips_first : (x : FrontElement) (s : Skipped) → ignored_front x ≡ Some s → x ≡ Skips s.len s.by
unfolding back
skips_first AtEnd s e = absurd cc
skips_first Stops s e = absurd cc
skips_first (Skips k l) s e = ap back e
skips_first (Takes i k t) s e = absurd cc

neither : (t : Bool) (x y : FrontElement) → ignored_front x ≡ None → ignored_front y ≡ None → ignored_front (cond t x y) ≡ None
neither true x y p q = p
neither false x y p q = q

no_closed : (k : Kind) (n : ℕ) (x : Option ℕ) → ignored_front (closed k n x) ≡ None
no_closed k n None = refl
no_closed k n (Some m) = refl

no_quoted : (bs : List ℕ) → ignored_front (quoted_front bs) ≡ None
unfolding quoted_front
no_quoted bs = neither (begins_quotes bs) _ _ (no_closed _ _ _) (no_closed _ _ _)

no_number : (bs : List ℕ) → ignored_front (number bs) ≡ None
unfolding number
no_number bs = neither (is_integer (run_at bs)) _ _ refl (neither (is_float (run_at bs)) _ _ refl refl)

-- no token is ignored text
pub no_token : (b : ℕ) (bytes : List ℕ) → ignored_front (other_token b bytes) ≡ None
unfolding other_token
no_token b bytes =
    neither (is_punctuator_byte b) _ _ refl
    (neither (b == 34) _ _ (no_quoted bytes)
    (neither (b == 46) _ _ (neither (get_or bytes 1 0 == 46 && get_or bytes 2 0 == 46) _ _ refl refl)
    (neither (b == 45 || is_ascii_digit b) _ _ (no_number bytes) refl)))

-- an input that begins with none of the bytes of ignored text
pub no_front : (b : ℕ) (bs : List ℕ) → (b == 9) ≡ false → (b == 10) ≡ false → (b == 13) ≡ false → (b == 32 || b == 44) ≡ false → (b == 35) ≡ false
    → (b == 239 && (get_or bs 0 0 == 187 && get_or bs 1 0 == 191)) ≡ false → ignored_front (front (b ∷ bs)) ≡ None
unfolding front
no_front b bs tab feed return blank number_sign order_mark =
    rw (tab, feed, return, blank, number_sign, order_mark) (neither (is_name_start b) _ _ refl (no_token b (b ∷ bs)))

fits_parts : (bytes : List ℕ) (x : FrontElement) → FitsIn bytes x → FitsIgnored bytes (ignored_front x)
fits_parts bytes AtEnd h = tt
fits_parts bytes Stops h = tt
fits_parts bytes (Skips n m) h = h
fits_parts bytes (Takes n k t) h = tt

pub ignored_fits : (bytes : List ℕ) (x : Option Skipped) → x ≡ ignored_front (front bytes) → IsUtf8 bytes → FitsIgnored bytes x
ignored_fits bytes x e utf8 = rw e (fits_parts bytes (front bytes) (front_fits bytes (front bytes) refl utf8))
