-- Two strings appended one after the other.
use Rattle.std.specs.Prelude.{◌≡◌, ℕ, List, [], ◌++◌, String, string_bytes}
use Rattle.std.specs.Global.{Global}
use Rattle.std.proofs.Common.{sym, ◌∙◌, ap, append_assoc, append-nil}

pub string_nil : (s : String Global) → string_bytes s ≡ string_bytes s ++ []
string_nil s = sym (append-nil (string_bytes s))

pub string_more : (s : String Global) (a : List ℕ) (t : String Global) (b : List ℕ) (u : String Global)
    → string_bytes t ≡ string_bytes s ++ a
    → string_bytes u ≡ string_bytes t ++ b → string_bytes u ≡ string_bytes s ++ (a ++ b)
string_more s a t b u p q = q ∙ ap (λ r. r ++ b) p ∙ append_assoc (string_bytes s) a b

pub list_nil : (s : List ℕ) → s ≡ s ++ []
list_nil s = sym (append-nil s)

pub list_more : (s a t b u : List ℕ) → t ≡ s ++ a → u ≡ t ++ b → u ≡ s ++ (a ++ b)
list_more s a t b u p q = q ∙ ap (λ r. r ++ b) p ∙ append_assoc s a b
