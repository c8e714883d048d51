pub mod Agree
pub mod Examples
pub mod Filling
pub mod Homes
pub mod PlainWays
pub mod Rounds
pub mod SlotWays
