-- What is to be done about an input, and what becomes of it.
use Rattle.std.specs.Prelude.{◌≡◌, ◌≢◌, ◌⊎◌, ℕ, List, Option, string_bytes}
use Rattle.std.specs.Io.KnownBytes.{Keeps, Appends}
use Rattle.graphql_fmt.specs.{IsAccepted, IsTidy, KeepsAll}
use Rattle.gqlfmt.specs.declared.arguments.Task.{Task}
use Rattle.gqlfmt.specs.declared.arguments.Task.TheVariants as task
use Rattle.gqlfmt.specs.declared.action.Action.{Action}
use Rattle.gqlfmt.specs.declared.action.Action.TheVariants as action
use Rattle.gqlfmt.specs.declared.outcome.Outcome.{Outcome}
use Rattle.gqlfmt.specs.declared.outcome.Outcome.TheVariants as outcome

-- a task reports inputs that would change
abbrev pub IsReport : Task → Type 0
IsReport t = (t ≡ task.Check) ⊎ (t ≡ task.Diff)

-- An action fits a task, an input and its formatted text: a text to print, or to take the place of the file, is the
-- formatted text. An input is reported or replaced only if the formatted text differs from it. Nothing is said of the
-- text of a report.
abbrev pub IsActionFor : Task → (source formatted : List ℕ) → Action → Type 0
IsActionFor t source formatted action.Keep = (t ≢ task.Print) × (formatted ≡ source)
IsActionFor t source formatted (action.Print text) = (t ≡ task.Print) × (string_bytes text ≡ formatted)
IsActionFor t source formatted (action.Report text) = IsReport t × (formatted ≢ source)
IsActionFor t source formatted (action.Replace text) =
    (t ≡ task.Write) × (string_bytes text ≡ formatted) × (formatted ≢ source)
IsActionFor t source formatted (action.Reject message) = ⊥

-- A text has the tokens and the comments of an input, and only such gaps between them as the formatter writes.
abbrev pub IsFormattedOf : (source text : List ℕ) → Type 0
IsFormattedOf source text = KeepsAll source text × IsTidy text

-- An action fits a task and an input: only an accepted input is kept, printed, reported or replaced, and only an input
-- that is not accepted is rejected. Nothing is said of the text of a report or of a message.
abbrev pub IsActionOn : Task → (source : List ℕ) → Action → Type 0
IsActionOn t source action.Keep = (t ≢ task.Print) × IsAccepted source × IsTidy source
IsActionOn t source (action.Print text) =
    (t ≡ task.Print) × IsAccepted source × IsFormattedOf source (string_bytes text)
IsActionOn t source (action.Report text) = IsReport t × IsAccepted source
IsActionOn t source (action.Replace text) =
    (t ≡ task.Write) × IsAccepted source × IsFormattedOf source (string_bytes text) × (string_bytes text ≢ source)
IsActionOn t source (action.Reject message) = IsAccepted source → ⊥

-- an action was carried out, with this outcome: what standard output had and has
abbrev pub IsDone : Action → (old new : Option (List ℕ)) → Outcome → Type 0
IsDone action.Keep old new o = (o ≡ outcome.Unchanged) × Keeps old new
IsDone (action.Print text) old new o = (o ≡ outcome.Printed) × Appends old new (string_bytes text)
IsDone (action.Report text) old new o = (o ≡ outcome.Differs) × Appends old new (string_bytes text)
IsDone (action.Replace text) old new o = ((o ≡ outcome.Rewritten) ⊎ (o ≡ outcome.Failed)) × Keeps old new
IsDone (action.Reject message) old new o = (o ≡ outcome.Rejected) × Keeps old new

-- What an outcome says of a task, an input, and what standard output had and has. A report can be
-- any text.
abbrev pub IsOutcomeOf : Task → (source : List ℕ) → (old new : Option (List ℕ)) → Outcome → Type 0
IsOutcomeOf t source old new outcome.Printed =
    (t ≡ task.Print) × IsAccepted source × (text : List ℕ) × IsFormattedOf source text × Appends old new text
IsOutcomeOf t source old new outcome.Unchanged =
    (t ≢ task.Print) × IsAccepted source × IsTidy source × Keeps old new
IsOutcomeOf t source old new outcome.Differs =
    IsReport t × IsAccepted source × (text : List ℕ) × Appends old new text
IsOutcomeOf t source old new outcome.Rewritten = (t ≡ task.Write) × IsAccepted source × Keeps old new
IsOutcomeOf t source old new outcome.Rejected = (IsAccepted source → ⊥) × Keeps old new
IsOutcomeOf t source old new outcome.Failed = Keeps old new
