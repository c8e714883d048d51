-- Laws of errors in words, each file by its subject. Assumes nothing.
pub mod Putting
pub mod TextFields
pub mod Lists
pub mod Whole
pub mod Walking
pub mod Messages
pub mod Reading
pub mod Injective
pub mod Compiled
pub mod Examples
