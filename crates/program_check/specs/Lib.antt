-- What the routines of the program check answer, area by area (02, 2026-01; the check itself is `program_fault` of the crate `definition`)
pub mod Parts
pub mod Instructions
pub mod HasEntries
pub mod Keys
pub mod KeySets
pub mod Functions
pub mod Answer
pub mod OneMemory
