pub mod FormattedDocuments
pub mod Numbers
pub mod Options
pub mod Streams
pub use FormattedDocuments.*
pub use Numbers.*
pub use Options.*
pub use Streams.*
