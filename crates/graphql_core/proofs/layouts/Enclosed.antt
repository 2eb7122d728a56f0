-- Parts between an opener and a closer: their output, and their levels.
use Rattle.std.proofs.Common.{◌≡◌, ◌++◌, ◌∙◌, ap, sym, refl, ℕ, ◌+◌, ◌*◌, ◌<◌, ◌==◌, max, length, map, Bool, true, false, if◌then◌else◌, List, [], ◌∷◌}
use Rattle.std.proofs.Common.{codes, append_assoc, append-nil, arith}
use Rattle.std.proofs.lemmas.Bool.{eqb-false}
use Rattle.std.proofs.Math.Nat.{mul-le-mul_left}
use Rattle.graphql_core.specs.{punctuator_part, text_of, Part, gap, new_line, StyleOptions, spaces, inside, opened, before_part, parts, after_parts, enclosed}
use Rattle.graphql_core.specs.{pair_layout, value_layout, each_argument, arguments_layout, arguments_levels, most_levels, directive_layout, directives_layout, in_braces}
use Rattle.graphql_core.specs.{ValueTree, DirectiveTree}
use Rattle.graphql_core.specs.steps.Joined.{led}
use Rattle.graphql_core.proofs.layouts.Appending.{text_append, and_part}

-- ---- levels

inside_fits_at : (multiline : Bool) (indent margin levels most : ℕ) → margin + (if multiline then levels + 1 else levels) * indent < most
    → (if multiline then margin + indent else margin) + levels * indent < most
inside_fits_at true indent margin levels most h = omega arith
inside_fits_at false indent margin levels most h = h

-- what fits in a level fits inside
pub inside_fits : (style : StyleOptions) (margin levels most : ℕ) → margin + opened style levels * style.indent < most
    → inside style margin + levels * style.indent < most
inside_fits style margin levels most h = inside_fits_at style.multiline style.indent margin levels most h

-- the part with fewer levels also fits
pub narrower : (margin a b indent most : ℕ) → margin + max a b * indent < most → (margin + a * indent < most) × (margin + b * indent < most)
narrower margin a b indent most h =
    let left = mul-le-mul_left {m = a} {n = max a b} indent (omega arith) in
    let right = mul-le-mul_left {m = b} {n = max a b} indent (omega arith) in
    (omega arith, omega arith)

-- both parts fit if the one with more levels does
pub both_fit : (a b indent most : ℕ) → max a b * indent < most → (a * indent < most) × (b * indent < most)
both_fit a b indent most h = let parts = narrower 0 a b indent most (omega arith) in (omega (arith, parts.0), omega (arith, parts.1))

-- ---- outputs

-- a name, a colon, a space and the value
pub pair_text : (n : List ℕ) (value : List Part) → (n ++ codes ": ") ++ text_of value ≡ text_of (pair_layout n value)
pair_text n value = append_assoc n (codes ": ") (text_of value)

-- lines in braces
pub braces_text : (margin : ℕ) (lines : List Part) → ((123 ∷ 10 ∷ [] ++ text_of lines) ++ spaces margin) ++ (125 ∷ 10 ∷ []) ≡ text_of (in_braces margin lines)
braces_text margin lines = simp (text_append, append_assoc)

-- one more element of a list, after a separator
pub next_text : (separator : List ℕ) (one later : List Part) → text_of (gap separator ++ (one ++ later)) ≡ (separator ++ text_of one) ++ text_of later
next_text separator one later = simp (text_append, append_assoc)

-- the first of a list in parentheses, and the others
pub first_text : (one later : List Part) → (codes "(" ++ text_of one)
    ++ (text_of later ++ codes ")") ≡ text_of (punctuator_part (codes "(") ++ (one ++ (later ++ punctuator_part (codes ")"))))
first_text one later = simp (text_append, append_assoc)

-- before a part, if each part takes a line
pub before_first : (style : StyleOptions) (margin : ℕ) (later : Bool) → style.multiline ≡ true → later ≡ false
    → text_of (new_line margin) ≡ text_of (before_part style margin later)
before_first style margin later m l = rw (l, m) refl

pub before_later : (style : StyleOptions) (margin : ℕ) (later : Bool) → style.multiline ≡ true → later ≡ true → codes ","
    ++ text_of (new_line margin) ≡ text_of (before_part style margin later)
before_later style margin later m l = rw (l, m) refl

-- after the parts, if each part takes a line and if none does
pub after_lines : (style : StyleOptions) (margin : ℕ) → style.multiline ≡ true → text_of (new_line margin) ≡ text_of (after_parts style margin)
after_lines style margin m = rw m refl

pub after_none : (style : StyleOptions) (margin : ℕ) → style.multiline ≡ false → [] ≡ text_of (after_parts style margin)
after_none style margin m = rw m refl

pub closed_text : (ps : List Part) (closer : List ℕ) → text_of ps ++ closer ≡ text_of (ps ++ punctuator_part closer)
closed_text ps closer = sym (text_append ps (punctuator_part closer) ∙ ap (λ r. text_of ps ++ r) (append-nil closer))

parts_more : (style : StyleOptions) (margin : ℕ) (later : Bool) (p : List Part) (ps : List (List Part))
    → text_of (parts style margin later (p ∷ ps)) ≡ text_of (before_part style margin later) ++ (text_of p ++ text_of (parts style margin true ps))
parts_more style margin later p ps = text_append (before_part style margin later) (p ++ parts style margin true ps)
    ∙ ap (λ r. text_of (before_part style margin later) ++ r) (text_append p (parts style margin true ps))

pub enclosed_text : (style : StyleOptions) (margin indented : ℕ) (opener closer : List ℕ) (layouts : ℕ → List (List Part)) → indented ≡ inside style margin
    → (opener ++ text_of (parts style indented false (layouts indented)))
    ++ text_of (after_parts style margin ++ punctuator_part closer) ≡ text_of (enclosed style margin opener closer (layouts (inside style margin)))
enclosed_text style margin indented opener closer layouts e =
    let inner = text_of (parts style (inside style margin) false (layouts (inside style margin))) in
    let after = after_parts style margin ++ punctuator_part closer in
    ap (λ m. (opener ++ text_of (parts style m false (layouts m))) ++ text_of after) e
    ∙ append_assoc opener inner (text_of after)
    ∙ ap (λ r. opener ++ r) (sym (text_append (parts style (inside style margin) false (layouts (inside style margin))) after))

module _ {S : Type 0} (took : S → List ℕ → S → Type 0)
    (more : (s : S) (a : List ℕ) (t : S) (b : List ℕ) (u : S) → took s a t → took t b u → took s (a ++ b) u) where
  -- one more part, with what comes before it
  pub and_next : (style : StyleOptions) (margin : ℕ) (later : Bool) (p : List Part) (ps : List (List Part)) (s out mid new : S) (done whole : List ℕ)
      → took s done out → took out (text_of (before_part style margin later)) mid → took mid (text_of p) new → done
      ++ text_of (parts style margin later (p ∷ ps)) ≡ whole
      → (now : List ℕ) × took s now new × (now ++ text_of (parts style margin true ps) ≡ whole)
  and_next style margin later p ps s out mid new done whole wrote before part e =
      and_part took more s out new done (text_of (before_part style margin later) ++ text_of p) (text_of (parts style margin true ps)) whole wrote
      (more _ _ _ _ _ before part)
      (ap (λ r. done ++ r)
      (append_assoc (text_of (before_part style margin later)) (text_of p) (text_of (parts style margin true ps))
      ∙ sym (parts_more style margin later p ps)) ∙ e)

-- ---- parts in one line

-- such parts are at the margin of the closer
pub inside_line : (style : StyleOptions) (margin : ℕ) → style.multiline ≡ false → inside style margin ≡ margin
inside_line style margin m = rw m refl

before_in_line : (style : StyleOptions) (margin : ℕ) → style.multiline ≡ false
    → (text_of (before_part style margin false) ≡ []) × (text_of (before_part style margin true) ≡ codes ", ")
before_in_line style margin m = (rw m refl, rw m refl)

led_parts : (style : StyleOptions) (margin : ℕ) (ps : List (List Part)) → style.multiline ≡ false
    → text_of (parts style margin true ps) ≡ led (codes ", ") (codes ", ") (map text_of ps)
led_parts style margin [] m = refl
led_parts style margin (p ∷ ps) m = parts_more style margin true p ps
    ∙ (λ j. (before_in_line style margin m).1 j ++ (text_of p ++ led_parts style margin ps m j))

-- with the opener before the first part
led_line : (style : StyleOptions) (margin : ℕ) (opener : List ℕ) (p : List Part) (ps : List (List Part)) → style.multiline ≡ false
    → opener ++ text_of (parts style margin false (p ∷ ps)) ≡ led opener (codes ", ") (map text_of (p ∷ ps))
led_line style margin opener p ps m = ap (λ r. opener ++ r) (parts_more style margin false p ps
    ∙ (λ j. (before_in_line style margin m).0 j ++ (text_of p ++ led_parts style margin ps m j)))

-- a name with what comes before and after it, its value, and what comes after
pub led_next : (before n : List ℕ) (value : List Part) (left : List ℕ) → ((before ++ (n ++ codes ": ")) ++ text_of value)
    ++ left ≡ before ++ (text_of (pair_layout n value) ++ left)
led_next before n value left = append_assoc (before ++ (n ++ codes ": ")) (text_of value) left
    ∙ append_assoc before (n ++ codes ": ") (text_of value ++ left)
    ∙ ap (λ r. before ++ r) (sym (append_assoc (n ++ codes ": ") (text_of value) left) ∙ ap (λ r. r ++ left) (pair_text n value))

-- ---- arguments

-- a list that the test for emptiness rejects is not empty
pub some_items : {X : Type 0} (n : ℕ) (xs : List X) → n ≡ length xs → (n == 0) ≡ false → 0 < length xs
some_items n xs e h = omega (arith, eqb-false _ _ h, e)

module _ {X : Type 0} (f : X → List ℕ × ValueTree) where
  -- the levels of a non-empty list of arguments
  pub filled_levels : (style : StyleOptions) (xs : List X) → 0 < length xs → arguments_levels style (map f xs) ≡ opened style (most_levels style (map f xs))
  filled_levels style [] h = absurd (omega arith)
  filled_levels style (x ∷ xs) h = refl

  -- what fits in a level fits inside
  pub arguments_fit : (style : StyleOptions) (margin most : ℕ) (xs : List X) → 0 < length xs → margin + arguments_levels style (map f xs) * style.indent < most
      → inside style margin + most_levels style (map f xs) * style.indent < most
  arguments_fit style margin most xs h within = inside_fits style margin (most_levels style (map f xs)) most (rw (filled_levels style xs h) at within)

  pub filled_layout : (style : StyleOptions) (margin : ℕ) (xs : List X) → 0 < length xs
      → enclosed style margin (codes "(") (codes ")") (each_argument style (inside style margin) (map f xs)) ≡ arguments_layout style margin (map f xs)
  filled_layout style margin [] h = absurd (omega arith)
  filled_layout style margin (x ∷ xs) h = refl

  -- in one line
  pub led_arguments : (style : StyleOptions) (margin : ℕ) (xs : List X) → 0 < length xs → style.multiline ≡ false
      → led (codes "(") (codes ", ") (map text_of (each_argument style margin (map f xs))) ++ codes ")" ≡ text_of (arguments_layout style margin (map f xs))
  led_arguments style margin [] h m = absurd (omega arith)
  led_arguments style margin (x ∷ xs) h m =
      let layouts : ℕ → List (List Part) = λ n. each_argument style n (map f (x ∷ xs)) in
      let first = pair_layout (f x).0 (value_layout style margin (f x).1) in
      let one_line = led_line style margin (codes "(") first (each_argument style margin (map f xs)) m in
      let closed : text_of (after_parts style margin ++ punctuator_part (codes ")")) ≡ codes ")" = rw m refl in
      (λ j. sym one_line j ++ sym closed j) ∙ enclosed_text style margin margin (codes "(") (codes ")") layouts (sym (inside_line style margin m))

-- a directive, and a list of directives
pub directive_text : (style : StyleOptions) (margin : ℕ) (d : DirectiveTree) → (codes "@" ++ d.name)
    ++ text_of (arguments_layout style margin d.arguments) ≡ text_of (directive_layout style margin d)
directive_text style margin d = append_assoc (codes "@") d.name (text_of (arguments_layout style margin d.arguments))

pub directives_more : (style : StyleOptions) (margin : ℕ) (d : DirectiveTree) (ds : List DirectiveTree)
    → (codes " " ++ text_of (directive_layout style margin d))
    ++ text_of (directives_layout style margin ds) ≡ text_of (directives_layout style margin (d ∷ ds))
directives_more style margin d ds = append_assoc (codes " ") (text_of (directive_layout style margin d)) (text_of (directives_layout style margin ds))
    ∙ ap (λ r. codes " " ++ r) (sym (text_append (directive_layout style margin d) (directives_layout style margin ds)))
