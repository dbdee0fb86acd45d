-- What the word arithmetic is defined to do, and the step of AR2.
pub mod Fixed
pub mod Ar2
