pub mod Nodes
pub mod Walking
pub mod Values
pub mod Query
pub mod Fields
pub mod Operations
pub mod steps
unfoldable pub use Nodes.*
unfoldable pub use Walking.*
unfoldable pub use Values.*
unfoldable pub use Query.*
unfoldable pub use Fields.*
unfoldable pub use Operations.*
unfoldable pub use steps.*
