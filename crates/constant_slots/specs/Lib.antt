pub mod Home
pub mod Plain
pub mod Slots
