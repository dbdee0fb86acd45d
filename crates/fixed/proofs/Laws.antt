-- The laws of words that the proofs cite, each subject in its own file, lower ones first. Every other crate cites them too.
pub mod Integer
pub mod Ring
pub mod Wrap
pub mod Fit
pub mod Narrow
