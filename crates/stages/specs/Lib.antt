-- What a call of a stage is defined to answer, return and write, in reading order.
pub mod Outcome
pub mod Entry
pub mod Claims
