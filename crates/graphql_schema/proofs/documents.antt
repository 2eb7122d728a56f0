pub mod MeaningsAlike
pub mod EarlierTrees
pub mod Earlier
pub mod RejectedNodes
unfoldable pub use MeaningsAlike.*
unfoldable pub use EarlierTrees.*
unfoldable pub use Earlier.*
unfoldable pub use RejectedNodes.*
