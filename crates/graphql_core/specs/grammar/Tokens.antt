-- Tokens, and the classes of tokens that a grammar names.
use Rattle.std.specs.Prelude.{ℕ, Bool, true, false, not, ◌&&◌, ◌||◌, ◌==◌, List, [], ◌∷◌}

-- where a token begins
pub record Place : Type 0 where
  pub line : ℕ
  pub column : ℕ

pub record Token : Type 0 where
  pub kind : ℕ
  pub spelling : List ℕ
  pub place : Place

-- a place that no token of an input has
abbrev pub nowhere : Place
nowhere = record { line = 0; column = 0 }

-- a token with this spelling (a punctuator or a keyword), any token of a kind, or any except those with some spellings
pub data Class : Type 0 where
  Spelled : (kind : ℕ) (spelling : List ℕ) → Class
  AnyOf : (kind : ℕ) → Class
  Except : (kind : ℕ) (spellings : List (List ℕ)) → Class

abbrev pub same_spelling : List ℕ → List ℕ → Bool
same_spelling [] [] = true
same_spelling (x ∷ xs) (y ∷ ys) = (x == y) && same_spelling xs ys
same_spelling _ _ = false

abbrev pub is_listed : List ℕ → List (List ℕ) → Bool
is_listed xs [] = false
is_listed xs (ys ∷ more) = same_spelling xs ys || is_listed xs more

abbrev pub class_kind : Class → ℕ
class_kind (Spelled k s) = k
class_kind (AnyOf k) = k
class_kind (Except k ss) = k

abbrev pub takes_spelling : Class → List ℕ → Bool
takes_spelling (Spelled k s) u = same_spelling s u
takes_spelling (AnyOf k) u = true
takes_spelling (Except k ss) u = not (is_listed u ss)

abbrev pub matches : Class → Token → Bool
matches c t = (class_kind c == t.kind) && takes_spelling c t.spelling
