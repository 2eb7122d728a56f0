pub mod Classes
pub mod Tables
pub mod Solve
pub mod Reading
pub mod Theorems
pub mod Factored
pub mod Extended
pub mod WholeTexts
pub mod Grown
unfoldable pub use Classes.*
unfoldable pub use Tables.*
unfoldable pub use Solve.*
unfoldable pub use Reading.*
unfoldable pub use Theorems.*
unfoldable pub use Factored.*
unfoldable pub use Extended.*
unfoldable pub use WholeTexts.*
unfoldable pub use Grown.*
