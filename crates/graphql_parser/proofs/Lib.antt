pub mod Again
pub mod Mapped
pub use Again.*
pub use Mapped.*
