pub mod Accepting
pub mod Comments
pub mod Formatting
pub mod Keeping
pub mod Reporting
pub mod Tidy
pub mod Trees
pub mod steps
pub use Accepting.{IsAccepted, IsParsedDocument, IsSourceDocument, IsStandardDocument, ParsesTo, max_open}
pub use Comments.{HasNoToken}
pub use Formatting.{AcceptsDocuments, HasSameDocuments}
pub use Keeping.{HasKept, KeepsAll, KeepsIn, Kept, KeptBlock, KeptComment, KeptToken}
pub use Keeping.{kept, kept_element, kept_token, trimmed}
pub use Reporting.{HasSourceErrors, IsReportOf, error_len, error_place}
pub use Tidy.{AreAfterGaps, AreFormatted, IsBlockString, IsGap, IsTidy, IsWrittenAs}
pub use Trees.{HasSameTrees, HasTree, IsSameTree, form_of}
