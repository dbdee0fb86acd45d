-- The laws that the proofs cite, each subject in its own file, lower ones first. Other crates cite them too.
pub mod Lists
pub mod Run
pub mod Section
pub mod Dot
pub mod Taps
pub mod Lengths
pub mod Group
