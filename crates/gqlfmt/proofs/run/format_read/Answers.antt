use Rattle.gqlfmt.proofs.run.format_read.Goals as goal

pub returns : goal.returns
returns g c = rw c.deref.ensures at c.format_text.ensures
