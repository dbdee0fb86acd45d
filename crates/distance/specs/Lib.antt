-- What the doubler is held against, in reading order: fractions and the exact filter, the same without fractions, distances,
-- what is claimed.
pub mod Exact
pub mod Powers
pub mod Distance
pub mod Claims
