pub mod EntriesAnew
pub mod LoopTurns
pub mod MethodWords
pub mod PlainMarks
pub mod PlainMethods
pub mod Restored
