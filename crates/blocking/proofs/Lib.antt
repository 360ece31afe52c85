-- The laws, which other crates may cite too.
pub mod StepLaws
pub mod PathLaws
pub mod ChainsLaws
pub mod StoreLaws
pub mod PutLaws
pub mod WhyLaws
