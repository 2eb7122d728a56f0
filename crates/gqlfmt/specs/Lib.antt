pub mod Actions
pub mod Outcomes
pub use Actions.{IsActionFor, IsActionOn, IsDone, IsFormattedOf, IsOutcomeOf}
pub use Outcomes.{IsWorst, one_more, status_of, times}
