-- What is read is derived. Reading looks only at the next item after it.
use Rattle.std.proofs.Common.{◌≡◌, List, ◌++◌, refl, sym, ap, subst, ◌∙◌, append_assoc}
use Rattle.graphql_core.specs.{Token, Expr, Then, Many, ParseTree, Both, More, Grammar, leaves, peek, Fits, fits_nothing, fits_leaf, fits_both, fits_first}
use Rattle.graphql_core.specs.{fits_second, fits_stop, fits_more, fits_node, first, sees, choose, Takes, takes_nothing, takes_leaf, takes_both, takes_first}
use Rattle.graphql_core.specs.{takes_second, takes_stop, takes_more, takes_node}
use Rattle.graphql_core.proofs.grammar.Items.{peek-seam}

pub takes-fits : (g : Grammar) {e : Expr} {ts : List Token} {x : ParseTree} {us : List Token} → Takes g e ts x us → Fits g e x
takes-fits g takes_nothing = fits_nothing
takes-fits g (takes_leaf h) = fits_leaf h
takes-fits g (takes_both p q) = fits_both (takes-fits g p) (takes-fits g q)
takes-fits g (takes_first h p) = fits_first (takes-fits g p)
takes-fits g (takes_second h p) = fits_second (takes-fits g p)
takes-fits g (takes_stop h) = fits_stop
takes-fits g (takes_more h p q) = fits_more (takes-fits g p) (takes-fits g q)
takes-fits g (takes_node p c) = fits_node (takes-fits g p) c

joined : (ts xs us ys vs : List Token) → ts ≡ xs ++ us → us ≡ ys ++ vs → ts ≡ (xs ++ ys) ++ vs
joined ts xs us ys vs p q = p ∙ ap (λ (l : List Token). xs ++ l) q ∙ sym (append_assoc xs ys vs)

pub takes-leaves : (g : Grammar) {e : Expr} {ts : List Token} {x : ParseTree} {us : List Token} → Takes g e ts x us → ts ≡ leaves x ++ us
takes-leaves g takes_nothing = refl
takes-leaves g (takes_leaf h) = refl
takes-leaves g (takes_both {ts = ts} {us = us} {vs = vs} {x = x} {y = y} p q) = joined ts (leaves x) us (leaves y) vs (takes-leaves g p) (takes-leaves g q)
takes-leaves g (takes_first h p) = takes-leaves g p
takes-leaves g (takes_second h p) = takes-leaves g p
takes-leaves g (takes_stop h) = refl
takes-leaves g (takes_more {ts = ts} {us = us} {vs = vs} {x = x} {y = y} h p q) = joined ts (leaves x) us (leaves y) vs (takes-leaves g p) (takes-leaves g q)
takes-leaves g (takes_node p c) = takes-leaves g p

-- the next item is the same if the remaining tokens begin with the same item
pub same_item : (ts xs us vs : List Token) → ts ≡ xs ++ us → peek vs ≡ peek us → peek ts ≡ peek (xs ++ vs)
same_item ts xs us vs p q = ap peek p ∙ sym (peek-seam xs vs us q)

pub takes-local : (g : Grammar) {e : Expr} {ts : List Token} {x : ParseTree} {us : List Token} → Takes g e ts x us → (vs : List Token) → peek vs ≡ peek us
    → Takes g e (leaves x ++ vs) x vs
takes-local g takes_nothing ws k = takes_nothing
takes-local g (takes_leaf h) ws k = takes_leaf h
takes-local g (takes_both {a = a} {b = b} {ts = ts} {us = us} {vs = vs} {x = x} {y = y} p q) ws k =
    subst (λ (l : List Token). Takes g (Then a b) l (Both x y) ws) (sym (append_assoc (leaves x) (leaves y) ws))
    (takes_both (takes-local g p (leaves y ++ ws) (sym (same_item us (leaves y) vs ws (takes-leaves g q) k))) (takes-local g q ws k))
takes-local g (takes_first {a = a} {b = b} {ts = ts} {us = us} {x = x} h p) ws k =
    takes_first (ap (choose g.rows a b) (sym (same_item ts (leaves x) us ws (takes-leaves g p) k)) ∙ h) (takes-local g p ws k)
takes-local g (takes_second {a = a} {b = b} {ts = ts} {us = us} {y = y} h p) ws k =
    takes_second (ap (choose g.rows a b) (sym (same_item ts (leaves y) us ws (takes-leaves g p) k)) ∙ h) (takes-local g p ws k)
takes-local g (takes_stop {a = a} h) ws k = takes_stop (ap (sees (first g.rows a)) k ∙ h)
takes-local g (takes_more {a = a} {ts = ts} {us = us} {vs = vs} {x = x} {y = y} h p q) ws k =
    let i : peek (leaves y ++ ws) ≡ peek us = sym (same_item us (leaves y) vs ws (takes-leaves g q) k) in
    subst (λ (l : List Token). Takes g (Many a) l (More x y) ws) (sym (append_assoc (leaves x) (leaves y) ws))
    (takes_more (ap (sees (first g.rows a)) (sym (same_item ts (leaves x) us (leaves y ++ ws) (takes-leaves g p) i)) ∙ h)
    (takes-local g p (leaves y ++ ws) i) (takes-local g q ws k))
takes-local g (takes_node p c) ws k = takes_node (takes-local g p ws k) c
