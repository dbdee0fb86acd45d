-- What C is told of a call.
pub mod Face
