-- The laws of the proofs here.
pub mod ReceivedLaws
