-- What bytes are of words, and words of bytes.
pub mod Bytes
