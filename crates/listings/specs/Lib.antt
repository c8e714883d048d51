pub mod Lines
pub mod Sections
pub mod Selecting
pub mod Cases
pub mod Listing
pub mod Bench
