pub mod Json
pub mod Nodes
pub mod Values
pub mod Query
pub mod Schema
pub mod steps
unfoldable pub use Nodes.*
unfoldable pub use Values.*
unfoldable pub use Query.*
unfoldable pub use steps.*
unfoldable pub use Json.*
