pub mod Ahead
pub mod ReaderResults
pub mod BlockBytes
pub mod BlockShape
pub mod Constness
pub mod ComputedItems
pub mod Escapes
pub mod Following
pub mod FormatterSink
pub mod Front
pub mod Joined
pub mod Minifying
pub mod NextLeaf
pub mod Levels
pub mod Lists
pub mod Lookahead
pub mod Matching
pub mod Numbers
pub mod Places
pub mod Punctuators
pub mod Quoted
pub mod ReadErrors
pub mod Readable
pub mod Rejecting
pub mod Sources
pub mod Spans
pub mod StringSink
pub mod Unescaped
unfoldable pub use Ahead.*
unfoldable pub use ReaderResults.*
unfoldable pub use BlockBytes.*
unfoldable pub use BlockShape.*
unfoldable pub use Constness.*
unfoldable pub use ComputedItems.*
unfoldable pub use Escapes.*
unfoldable pub use Following.*
unfoldable pub use FormatterSink.*
unfoldable pub use Front.*
unfoldable pub use Joined.*
unfoldable pub use Minifying.*
unfoldable pub use NextLeaf.*
unfoldable pub use Levels.*
unfoldable pub use Lists.*
unfoldable pub use Lookahead.*
unfoldable pub use Matching.*
unfoldable pub use Numbers.*
unfoldable pub use Places.*
unfoldable pub use Punctuators.*
unfoldable pub use Quoted.*
unfoldable pub use ReadErrors.*
unfoldable pub use Readable.*
unfoldable pub use Rejecting.*
unfoldable pub use Sources.*
unfoldable pub use Spans.*
unfoldable pub use StringSink.*
unfoldable pub use Unescaped.*
