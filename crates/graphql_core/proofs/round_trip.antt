pub mod ParsingBack
pub mod LeavesBack
pub mod ListsBack
pub mod TypesBack
pub mod ValuesBack
pub mod DirectivesBack
pub mod LinesBack
unfoldable pub use ParsingBack.*
unfoldable pub use LeavesBack.*
unfoldable pub use ListsBack.*
unfoldable pub use TypesBack.*
unfoldable pub use ValuesBack.*
unfoldable pub use DirectivesBack.*
unfoldable pub use LinesBack.*
