pub mod Rules
pub mod Rows
pub mod Check
pub mod Children
pub mod At
pub mod Reading
pub mod Spelled
