-- The laws that the proofs cite, each subject in its own file, lower ones first. Other crates cite them too.
pub mod Loop
pub mod Reading
pub mod Pass
pub mod Parts
pub mod Groups
pub mod Outcome
