-- What the exported functions answer where no routine below has it
pub mod Lengths
pub mod Modes
pub mod Refusals
pub mod Versions
