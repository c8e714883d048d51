-- Laws of column files, each file by its subject. Assumes nothing.
pub mod Digits
pub mod Integers
pub mod Reading
pub mod Writing
pub mod Numerals
pub mod Lines
pub mod Again
