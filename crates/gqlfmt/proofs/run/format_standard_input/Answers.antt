use Rattle.gqlfmt.proofs.Accepting.{for_input}
use Rattle.gqlfmt.proofs.run.format_standard_input.Goals as goal

pub returns-in-Ok : goal.returns-in-Ok
returns-in-Ok g c = for_input _ _ _ c.in-Ok.ensures (rw c.deref.ensures at c.format_text.ensures)
