-- The laws that the proofs cite, each subject in its own file, lower ones first.
pub mod Decimal
pub mod Ends
pub mod Opening
pub mod Sizes
pub mod Calls
pub mod Pieces
