pub mod InARow
mod LentState
