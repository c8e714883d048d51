-- Laws of the listing, each file by its subject. Assumes nothing.
pub mod BenchTable
pub mod Cases
pub mod Walking
pub mod Keys
pub mod Sorting
pub mod Places
pub mod Text
pub mod Whole
pub mod LineOne
