-- What the programs are defined to do, in reading order: their messages, converting and its parts, opening; then what is claimed.
pub mod Message
pub mod Line
pub mod Call
pub mod Opening
pub mod Claims
