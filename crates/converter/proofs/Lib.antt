-- The laws, which other crates may cite too.
pub mod StrungLaws
pub mod ConvertedLaws
pub mod ConvertLaws
pub mod MarkLaws
pub mod JoinLaws
pub mod WalkLaws
pub mod PutLaws
