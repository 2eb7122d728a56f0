pub mod Pieces
unfoldable pub use Pieces.*
pub use Pieces.{Appends}
