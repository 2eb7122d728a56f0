-- What the arguments mean: options after those already read, and commands.
use Rattle.std.proofs.Common.{◌≡◌, ◌∙◌, ℕ, Bool, true, false, List, [], ◌∷◌, Option, Some, None, refl, sym, ap, subst, arith}
use Rattle.std.specs.Prelude.{◌↔◌, codes, nat_eq}
use Rattle.std.proofs.lemmas.Bool.{and_parts, eqb-true, false≢true}
use Rattle.std.specs.Cmp.Lexicographic.{pointwise}
use Rattle.std.specs.Str.Parse.{digits_value}
use Rattle.graphql_core.specs.{StyleOptions, default_style}
use Rattle.gql.specs.{is_indent, is_multiline, is_number, number_of, style_said, Says, SaysStyle, all_said, says_multiline, says_indent, Means, means_styled}
use Rattle.gql.specs.{means_minify, styled_command}
use Rattle.gql.specs.declared.command.Command.{Command}
use Rattle.gql.specs.declared.command.Command.TheVariants.{Minify}

-- no word is both options
both_words : (w : List ℕ) → is_multiline w ≡ true → is_indent w ≡ true → ⊥
both_words [] m i = absurd (false≢true m)
both_words (a ∷ []) m i = absurd (false≢true (and_parts _ _ m).1)
both_words (a ∷ b ∷ []) m i = absurd (false≢true (and_parts _ _ (and_parts _ _ m).1).1)
both_words (a ∷ b ∷ c ∷ cs) m i =
    let one = eqb-true c 109 (and_parts _ _ (and_parts _ _ (and_parts _ _ m).1).1).0 in
    let other = eqb-true c 105 (and_parts _ _ (and_parts _ _ (and_parts _ _ i).1).1).0 in
    omega arith

pub said_end : {i : Option ℕ} {m : Bool} {s : StyleOptions} → Says i m [] s → s ≡ style_said i m
said_end all_said = refl

pub said_multiline : {i : Option ℕ} {w : List ℕ} {ws : List (List ℕ)} {s : StyleOptions} → is_multiline w ≡ true → Says i false (w ∷ ws) s → Says i true ws s
said_multiline h (says_multiline k more) = more
said_multiline {w = w} h (says_indent k number more) = absurd (both_words w h k)

pub said_indent : {m : Bool} {w n : List ℕ} {ws : List (List ℕ)} {s : StyleOptions} → is_indent w ≡ true → Says None m (w ∷ n ∷ ws) s
    → (is_number n ≡ true) × Says (Some (digits_value 10 n)) m ws s
said_indent {w = w} h (says_multiline k more) = absurd (both_words w k h)
said_indent h (says_indent k number more) = (number, more)

-- ---- iterations of the loop over options

-- with the options already read, the remaining words have the same style as all options
abbrev pub Left : List (List ℕ) → Option ℕ → Bool → List (List ℕ) → Type 0
Left options i m rest = (style : StyleOptions) → Says i m rest style ↔ SaysStyle options style

pub left_after_multiline : {options ws rest : List (List ℕ)} {i : Option ℕ} {m : Bool} {w : List ℕ} → rest ≡ w ∷ ws → is_multiline w ≡ true → m ≡ false
    → Left options i m rest → Left options i true ws
left_after_multiline {options = options} {ws = ws} {rest = rest} {i = i} {w = w} e h k left style =
    let one : Says i false rest style ↔ SaysStyle options style = subst (λ b. Says i b rest style ↔ SaysStyle options style) k (left style) in
    let here : Says i false (w ∷ ws) style ↔ SaysStyle options style = subst (λ r. Says i false r style ↔ SaysStyle options style) e one in
    (λ says. here.0 (says_multiline h says), λ says. said_multiline h (here.1 says))

number_some : (n : List ℕ) (k : ℕ) (b : Bool) → is_number n ≡ b → number_of n ≡ Some k → (is_number n ≡ true) × (digits_value 10 n ≡ k)
number_some n k true is h = let same : Some (digits_value 10 n) ≡ Some k = rw is at h in (is, cc)
number_some n k false is h = let none : None ≡ Some k = rw is at h in absurd cc

pub left_after_indent : {options ws rest : List (List ℕ)} {i : Option ℕ} {m : Bool} {w n : List ℕ} {k : ℕ} → rest ≡ w ∷ n ∷ ws → is_indent w ≡ true → i ≡ None
    → number_of n ≡ Some k → Left options i m rest → Left options (Some k) m ws
left_after_indent {options = options} {ws = ws} {rest = rest} {m = m} {w = w} {n = n} {k = k} e h none said left style =
    let one : Says None m rest style ↔ SaysStyle options style = subst (λ o. Says o m rest style ↔ SaysStyle options style) none (left style) in
    let here : Says None m (w ∷ n ∷ ws) style ↔ SaysStyle options style = subst (λ r. Says None m r style ↔ SaysStyle options style) e one in
    let (number, is) = number_some n k (is_number n) refl said in (
      λ says. here.0 (says_indent h number (subst (λ d. Says (Some d) m ws style) (sym is) says)),
      λ says. subst (λ d. Says (Some d) m ws style) is (said_indent h (here.1 says)).1,
    )

pub none_left : {options rest : List (List ℕ)} {i : Option ℕ} {m : Bool} → ((style : StyleOptions) → Says i m rest style → ⊥) → Left options i m rest
    → (style : StyleOptions) → None ≡ Some style ↔ SaysStyle options style
none_left refuted left style = (λ e. let none : None ≡ Some style = e in absurd cc, λ says. absurd (refuted style ((left style).1 says)))

pub all_left : {options rest : List (List ℕ)} {i : Option ℕ} {m : Bool} {r : StyleOptions} → rest ≡ [] → r ≡ style_said i m → Left options i m rest
    → (style : StyleOptions) → Some r ≡ Some style ↔ SaysStyle options style
all_left {options = options} {i = i} {m = m} {r = r} e is left style =
    let here : Says i m [] style ↔ SaysStyle options style = subst (λ ws. Says i m ws style ↔ SaysStyle options style) e (left style) in (
      λ same. let equal : Some r ≡ Some style = same in let one : r ≡ style = cc in
          here.0 (subst (λ s. Says i m [] s) (sym is ∙ one) all_said),
      λ says. ap Some (is ∙ sym (said_end (here.1 says))),
    )

-- ---- commands

-- `minify` takes no options
minify_unstyled : (w : List ℕ) (c : Command) → pointwise nat_eq w (codes "minify") ≡ true → styled_command w ≡ Some c → ⊥
minify_unstyled [] c m q = absurd (false≢true m)
minify_unstyled (a ∷ cs) c m q =
    let one = eqb-true a 109 (and_parts _ _ m).0 in
    let none : None ≡ Some c = rw one at q in
    absurd cc

styled_said : {ws : List (List ℕ)} {w : List ℕ} {command : Command} {style : StyleOptions} {said : Command × StyleOptions} → styled_command w ≡ Some command
    → ((s : StyleOptions) → Some style ≡ Some s ↔ SaysStyle ws s) → Means (w ∷ ws) said → Some (command, style) ≡ Some said
styled_said {command = command} q is (means_styled {command = other} {style = here} k says) =
    let one : Some command ≡ Some other = sym q ∙ k in
    let two = (is here).1 says in
    cc
styled_said {w = w} q is (means_minify k) = absurd (minify_unstyled w _ k q)

pub means_one_styled : (words ws : List (List ℕ)) (w : List ℕ) (command : Command) (style : StyleOptions) → (r : Option StyleOptions) → r ≡ Some style
    → ((s : StyleOptions) → r ≡ Some s ↔ SaysStyle ws s) → words ≡ w ∷ ws → styled_command w ≡ Some command
    → (said : Command × StyleOptions) → Some (command, style) ≡ Some said ↔ Means words said
means_one_styled words ws w command style r was here e q said =
    let is : (s : StyleOptions) → Some style ≡ Some s ↔ SaysStyle ws s = subst (λ o. (s : StyleOptions) → o ≡ Some s ↔ SaysStyle ws s) was here in
    let means : Means words (command, style) = subst (λ x. Means x (command, style)) (sym e) (means_styled q ((is style).0 refl)) in (
      λ same. let equal : Some (command, style) ≡ Some said = same in let one : (command, style) ≡ said = cc in subst (λ s. Means words s) one means,
      λ means. styled_said q is (subst (λ x. Means x said) e means),
    )

minify_said : {w : List ℕ} {said : Command × StyleOptions} → pointwise nat_eq w (codes "minify") ≡ true → Means (w ∷ []) said
    → Some (Minify, default_style) ≡ Some said
minify_said {w = w} m (means_styled k says) = absurd (minify_unstyled w _ m k)
minify_said m (means_minify k) = refl

pub means_one_minify : (words : List (List ℕ)) (w : List ℕ) (style : StyleOptions) → words ≡ w ∷ [] → pointwise nat_eq w (codes "minify") ≡ true
    → style ≡ default_style → (said : Command × StyleOptions) → Some (Minify, style) ≡ Some said ↔ Means words said
means_one_minify words w style e m is said =
    let means : Means words (Minify, default_style) = subst (λ x. Means x (Minify, default_style)) (sym e) (means_minify m) in
    let whole : Some (Minify, style) ≡ Some (Minify, default_style) = ap (λ s. Some (Minify, s)) is in (
      λ same. let equal : Some (Minify, style) ≡ Some said = same in let one : (Minify, default_style) ≡ said = cc in
          subst (λ s. Means words s) one means,
      λ means. whole ∙ minify_said m (subst (λ x. Means x said) e means),
    )
