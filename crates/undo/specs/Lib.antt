pub mod Fits
pub mod Notes
pub mod Stood
pub mod Turns
