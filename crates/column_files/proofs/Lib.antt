-- Laws of column files and records, each file by its subject. Assumes nothing.
pub mod Files
pub mod Converting
pub mod RoundTrips
