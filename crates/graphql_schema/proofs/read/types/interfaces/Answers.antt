use Rattle.std.proofs.Common.{refl, sym, ap, ◌∙◌, map}
use Rattle.graphql_core.specs.{Nothing, takes_nothing}
use Rattle.graphql_schema.proofs.read.types.interfaces.Goals as goal

pub returns-then-not-has_interfaces : goal.returns-then-not-has_interfaces
returns-then-not-has_interfaces g c =
    rw (sym c.has_interfaces.ensures ∙ c.if-not-has_interfaces.true) (Nothing, (takes_nothing, refl), ap (map g.S.Names.Names.bytes) c.new.ensures.items)
