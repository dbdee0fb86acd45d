-- What the resampler is defined to do, in reading order: pairs, records, a call, outcomes, the parked block; then what is claimed of it all.
pub mod Pairs
pub mod Kinds
pub mod Record
pub mod Resample
pub mod Entry
pub mod Block
pub mod Cases
pub mod Claims
