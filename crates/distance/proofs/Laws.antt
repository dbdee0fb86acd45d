-- The laws that the proofs cite, each subject in its own file, lower ones first.
pub mod Error
pub mod Fractions
pub mod Powers
pub mod Near
pub mod Within
pub mod Round
pub mod Samples
pub mod Lines
