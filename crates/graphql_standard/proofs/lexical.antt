pub mod Numbers
pub mod CoreNumbers
pub mod Escapes
pub mod Strings
pub mod Elements
pub mod Following
pub mod Laws
pub mod Divisions
unfoldable pub use Numbers.*
unfoldable pub use CoreNumbers.*
unfoldable pub use Escapes.*
unfoldable pub use Strings.*
unfoldable pub use Elements.*
unfoldable pub use Following.*
unfoldable pub use Laws.*
unfoldable pub use Divisions.*
