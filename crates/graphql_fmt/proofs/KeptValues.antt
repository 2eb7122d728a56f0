-- Inputs with the same tokens and comments have tokens of the same kinds and values, and the same end.
use Rattle.std.proofs.Common.{◌≡◌, ℕ, ◌==◌, Bool, true, false, not, ◌&&◌, if◌then◌else◌, List, [], ◌∷◌, ◌++◌, length, map, slice_index, refl, sym, ◌∙◌, subst}
use Rattle.graphql_core.specs.declared.tokenizer.piece.Nesting.{Nesting}
use Rattle.graphql_core.specs.declared.tokenizer.piece.Nesting.TheVariants.{Unchanged, Opens, Closes}
use Rattle.graphql_core.specs.declared.tokenizer.token.Kind.{Kind}
use Rattle.graphql_core.specs.declared.tokenizer.token.Kind.TheVariants.{Punctuator, Name, IntValue, FloatValue, StringValue, BlockString}
use Rattle.graphql_core.specs.declared.tokenizer.element.ElementKind.TheVariants as element
use Rattle.graphql_core.specs.{Meaning, Ignored, TokenOf, IsLexicalElement, Piece, start, Item, HasItems, Where, item_at, TokenContent, LexicalError, too_deep}
use Rattle.graphql_core.specs.{is_too_deep, token_then, piece_then, items_of, past_ignored, past_token, split, Last, LastIsError, IsEnd, Token, nowhere}
use Rattle.graphql_core.specs.{kind_number, token_of, valued, block_string_of}
use Rattle.graphql_core.specs.lexical.Items.{openers_after, closers_after}
use Rattle.graphql_core.specs.sources.Source.{LastIsEnd}
use Rattle.graphql_core.specs.steps.Minifying.{is_past}
use Rattle.graphql_core.specs.lexical.Elements.{element_kind}
use Rattle.graphql_core.specs.lexical.Lexical.{nesting_of, name_token, punctuator_token, spread_token, integer_token}
use Rattle.graphql_core.specs.lexical.Lexical.{float_token, string_token, block_string_token}
use Rattle.graphql_core.proofs.{items_unique}
use Rattle.graphql_standard.specs.lexical.Elements.{IsDividedInto, IsEither}
use Rattle.graphql_standard.proofs.lexical.Laws.{core_laws, core_division, division_in_core, division_of_either}
use Rattle.graphql_fmt.specs.{Kept, KeptToken, KeptBlock, KeptComment, kept_token, kept_element, kept, HasKept}

-- ---- how a token changes the number of open brackets, by its spelling

abbrev punctuator_nesting : List ℕ → Nesting
punctuator_nesting [] = Unchanged
punctuator_nesting (b ∷ []) = nesting_of b
punctuator_nesting (b ∷ c ∷ cs) = Unchanged

abbrev nesting : Kind → List ℕ → Nesting
nesting Punctuator s = punctuator_nesting s
nesting Name s = Unchanged
nesting IntValue s = Unchanged
nesting FloatValue s = Unchanged
nesting StringValue s = Unchanged
nesting BlockString s = Unchanged

nesting_is : {s : List ℕ} {k : Kind} {n : Nesting} {rest : List ℕ} → IsLexicalElement s (TokenOf k n) rest → nesting k s ≡ n
nesting_is (name_token first continues ends) = refl
nesting_is (punctuator_token m) = refl
nesting_is spread_token = refl
nesting_is (integer_token is ends) = refl
nesting_is (float_token is ends) = refl
nesting_is (string_token body is some) = refl
nesting_is (block_string_token closes) = refl

-- ---- the tokens for a parser, and their end, by what is kept

abbrev pub token_by : Kind → List ℕ → Token
token_by k s = record { kind = kind_number k; spelling = s; place = nowhere }

-- the tokens up to an opening bracket that would be the 51st that is open; `o` and `c` count the brackets before them
abbrev tokens_by : (o c : ℕ) → List Kept → List Token
tokens_by o c [] = []
tokens_by o c (KeptComment s ∷ ks) = tokens_by o c ks
tokens_by o c (KeptBlock v ∷ ks) = token_by BlockString v ∷ tokens_by o c ks
tokens_by o c (KeptToken k s ∷ ks) =
    if is_past (nesting k s) o c then []
    else token_by k s ∷ tokens_by (openers_after (nesting k s) o) (closers_after (nesting k s) c) ks

-- no opening bracket would be the 51st that is open
abbrev ends_by : (o c : ℕ) → List Kept → Bool
ends_by o c [] = true
ends_by o c (KeptComment s ∷ ks) = ends_by o c ks
ends_by o c (KeptBlock v ∷ ks) = ends_by o c ks
ends_by o c (KeptToken k s ∷ ks) =
    not (is_past (nesting k s) o c) && ends_by (openers_after (nesting k s) o) (closers_after (nesting k s) c) ks

abbrev is_end : Last → Bool
is_end (LastIsEnd p) = true
is_end (LastIsError p c) = false

-- from this place on, the items have the tokens and the end that follow from what is kept
abbrev SaysItems : Where → List Item → List Kept → Type 0
SaysItems w items ks =
    (map valued (split items).tokens ≡ tokens_by w.openers w.closers ks) × (is_end (split items).last ≡ ends_by w.openers w.closers ks)

past_is : (n : Nesting) (w : Where) → is_past n w.openers w.closers ≡ is_too_deep n w
past_is Unchanged w = refl
past_is Opens w = refl
past_is Closes w = refl

-- ---- one lexical element

-- a token whose spelling is kept
says_token : (b : Bool) (k : Kind) (s : List ℕ) (w : Where) (more : List Item) (ks : List Kept) → is_past (nesting k s) w.openers w.closers ≡ b
    → valued (token_of w.position k s) ≡ token_by k s → SaysItems (past_token (nesting k s) s w) more ks
    → SaysItems w (token_then b (item_at (LexicalError too_deep) w) (item_at (TokenContent k s) w) more) (KeptToken k s ∷ ks)
says_token true k s w more ks past same h = (rw past refl, rw past refl)
says_token false k s w more ks past same h = (rw past (λ i. same i ∷ h.0 i), rw past h.1)

says_word : (k : Kind) (s : List ℕ) (w : Where) (more : Where → List Item) (ks : List Kept) → ((v : Where) → SaysItems v (more v) ks)
    → SaysItems w (piece_then (TokenOf k (nesting k s)) more w s) (kept_token k s ∷ ks)
says_word Punctuator s w more ks h =
    says_token (is_too_deep (punctuator_nesting s) w) Punctuator s w _ ks (past_is (punctuator_nesting s) w) refl (h (past_token (punctuator_nesting s) s w))
says_word Name s w more ks h = says_token false Name s w _ ks refl refl (h (past_token Unchanged s w))
says_word IntValue s w more ks h = says_token false IntValue s w _ ks refl refl (h (past_token Unchanged s w))
says_word FloatValue s w more ks h = says_token false FloatValue s w _ ks refl refl (h (past_token Unchanged s w))
says_word StringValue s w more ks h = says_token false StringValue s w _ ks refl refl (h (past_token Unchanged s w))
says_word BlockString s w more ks h =
    let (tokens, end) = h (past_token Unchanged s w) in
    ((λ i. token_by BlockString (block_string_of s) ∷ tokens i), end)

-- of ignored text only comments are kept, and they are no tokens
says_ignored : (is_comment : Bool) (bytes : List ℕ) (w : Where) (items : List Item) (ks : List Kept) → SaysItems w items ks
    → SaysItems w items (kept_element (if is_comment then element.Comment else element.Ignored) bytes ++ ks)
says_ignored true bytes w items ks h = h
says_ignored false bytes w items ks h = h

says_piece : (m : Meaning) (bytes rest : List ℕ) (w : Where) (more : Where → List Item) (ks : List Kept) → IsLexicalElement bytes m rest
    → ((v : Where) → SaysItems v (more v) ks) → SaysItems w (piece_then m more w bytes) (kept_element (element_kind bytes m) bytes ++ ks)
says_piece (Ignored m) bytes rest w more ks st h =
    says_ignored (slice_index bytes 0 == 35) bytes w (more (past_ignored m (length bytes) w)) ks (h (past_ignored m (length bytes) w))
says_piece (TokenOf k n) bytes rest w more ks st h =
    subst (λ (t : Nesting). SaysItems w (piece_then (TokenOf k t) more w bytes) (kept_token k bytes ∷ ks)) (nesting_is st) (says_word k bytes w more ks h)

-- ---- whole inputs

says_items : (ps : List Piece) (text : List ℕ) (w : Where) → IsDividedInto IsLexicalElement text ps [] → SaysItems w (items_of w ps []) (kept ps)
unfolding items_of
says_items [] text w division = (refl, refl)
says_items (p ∷ ps) text w (rest, e, st, division) =
    says_piece p.meaning p.bytes rest w (λ v. items_of v ps []) (kept ps) st (λ v. says_items ps rest v division)

says_kept : (text : List ℕ) (items : List Item) (ks : List Kept) → HasItems text items → HasKept IsLexicalElement text ks → SaysItems start items ks
says_kept text items ks has (ps, division, is) =
    let same = items_unique text _ items (ps, [], division_in_core text ps [] division, refl) has in
    subst (SaysItems start items) is (subst (λ (found : List Item). SaysItems start found (kept ps)) same (says_items ps text start division))

at_end : (l : Last) → IsEnd l → is_end l ≡ true
at_end (LastIsEnd p) end = refl
at_end (LastIsError p c) end = absurd end

end_at : (l : Last) → is_end l ≡ true → IsEnd l
end_at (LastIsEnd p) is = tt
end_at (LastIsError p c) is = absurd cc

-- Inputs with the same tokens and comments have tokens of the same kinds and values. If one is a list of tokens and
-- then the end of the input, so is the other.
pub same_values : (source text : List ℕ) (items others : List Item) (ks : List Kept) → HasKept IsLexicalElement source ks → HasKept IsLexicalElement text ks
    → HasItems source items → HasItems text others
    → (map valued (split others).tokens ≡ map valued (split items).tokens) × (IsEnd (split items).last → IsEnd (split others).last)
same_values source text items others ks mine theirs has more =
    let (tokens, end) = says_kept source items ks has mine in
    let (tokens', end') = says_kept text others ks more theirs in
    (tokens' ∙ sym tokens, λ last. end_at (split others).last (end' ∙ sym end ∙ at_end (split items).last last))

-- ---- inputs without a lexical error

-- after the token of a list of items comes no lexical error
all_piece : (m : Meaning) (w : Where) (bytes stop : List ℕ) (more : Where → List Item) → ((v : Where) → IsEnd (split (more v)).last → stop ≡ [])
    → IsEnd (split (piece_then m more w bytes)).last → stop ≡ []
all_piece (Ignored m) w bytes stop more f end = f (past_ignored m (length bytes) w) end
all_piece (TokenOf k Unchanged) w bytes stop more f end = f (past_token Unchanged bytes w) end
all_piece (TokenOf k Closes) w bytes stop more f end = f (past_token Closes bytes w) end
all_piece (TokenOf k Opens) w bytes stop more f end = all_opened (is_too_deep Opens w) end
  where
    all_opened : (b : Bool)
        → IsEnd (split (token_then b (item_at (LexicalError too_deep) w) (item_at (TokenContent k bytes) w) (more (past_token Opens bytes w)))).last → stop ≡ []
    all_opened true end = absurd end
    all_opened false end = f (past_token Opens bytes w) end

all_tokenized : (ps : List Piece) (stop : List ℕ) (w : Where) → IsEnd (split (items_of w ps stop)).last → stop ≡ []
unfolding items_of
all_tokenized [] [] w end = refl
all_tokenized [] (b ∷ bs) w end = absurd end
all_tokenized (p ∷ ps) stop w end = all_piece p.meaning w p.bytes stop (λ v. items_of v ps stop) (λ v. all_tokenized ps stop v) end

-- An input of tokens and then its end is lexical elements, so it has a list of tokens and comments.
pub has_kept : (text : List ℕ) (items : List Item) → HasItems text items → IsEnd (split items).last → (ks : List Kept) × HasKept IsLexicalElement text ks
has_kept text items (ps, stop, tokenized, is) end =
    let none : stop ≡ [] = all_tokenized ps stop start (subst (λ (found : List Item). IsEnd (split found).last) is end) in
    (kept ps, (ps, subst (λ (rest : List ℕ). IsDividedInto IsLexicalElement text ps rest) none (core_division text ps stop tokenized), refl))

pub has_kept_of_either : (text : List ℕ) (items : List Item) → HasItems text items → IsEnd (split items).last → (ks : List Kept) × HasKept IsEither text ks
has_kept_of_either text items has end =
    let (ks, (ps, division, is)) = has_kept text items has end in (ks, (ps, division_of_either core_laws text ps [] division refl, is))
