use Rattle.std.specs.Map.{keys_of}
use Rattle.std.proofs.Common.{◌≡◌, ◌+◌, [], ◌∷◌, ◌++◌, subst, append_assoc, map, take, rules}
use Rattle.std.proofs.lemmas.List.{map_push, map_more}
use Rattle.std.specs.List.Sorted.{IsStrictlySortedBy}
use Rattle.graphql_core.specs.{value_view}
use Rattle.graphql_core.specs.declared.common.tree.Value.{Value}
use Rattle.graphql_core.proofs.{view_insert, put_last}
use Rattle.graphql_core.proofs.common.tree.copies.+copy.Goals as goal

pub copy_members-members-preserved : goal.copy_members-members-preserved
copy_members-members-preserved g t c =
    let l = c.members in
    let bytes = g.N.Names.bytes in
    let cmp = g.N.Value.Ord.cmp in
    let law = g.met.N.Names.cmp_by_bytes in
    let done = l.invariant.0 in
    let e : g.row.N-Value.Denot × Value g.row.N.Denot g.row.N-Value.Denot = (c.in-Some.key.now, c.in-Some.member.now) in
    let left = c.next.new.self in
    let all : c.args.members.now.entries ≡ done ++ e ∷ left = rw (l.invariant.1, c.in-Some.ensures.steps) in
    let last = put_last bytes cmp law done e left (subst (λ es. IsStrictlySortedBy cmp (keys_of es)) all c.iter-key-items.ensures.ordered) in
    let named : g.M.Names.bytes c.in_ok-name.name ≡ bytes e.0 = c.in_ok-name.ensures in (
      done ++ e ∷ [],
      rw (append_assoc done (e ∷ []) left) all,
      rw (
        c.in_ok-insert.ensures.entries,
        view_insert g.M.Names.bytes g.M.Value.Ord.cmp g.met.M.Names.cmp_by_bytes l.copies.entries c.in_ok-name.name c.in_ok-copy.field-0,
        named,
        c.in_ok-copy.ensures,
        l.invariant.2,
      ) last,
    )

pub copy_items-items-preserved : goal.copy_items-items-preserved
copy_items-items-preserved g t c =
    let f = value_view g.N.Names.bytes in
    let xs = c.deref-item-items.result.now in
    let i = c.items.item-index in
    let x = c.item-item.result in
    let more : map f (take (i + 1) xs) ≡ map f (take i xs) ++ f x ∷ [] = search (rules, map_more f xs i x) in
    rw (
      c.in_ok-push.ensures.items,
      map_push (value_view g.M.Names.bytes) c.items.copies.items c.in_ok-copy.field-0,
      c.items.invariant,
      c.in_ok-copy.ensures,
      more,
    )
