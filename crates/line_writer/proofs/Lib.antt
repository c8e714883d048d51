pub mod InARow
pub mod Placing
pub mod WholeLine
