-- The laws that the proofs cite, each subject in its own file, lower ones first.
pub mod Bytes
pub mod Place
pub mod Laying
