-- The laws, which other crates may cite too.
pub mod PoolLaws
pub mod CountLaws
pub mod PutLaws
pub mod CallLaws
