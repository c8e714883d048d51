-- Laws of constant tables and their documents, each file by its subject. Assumes nothing.
pub mod TableLines
pub mod Search
pub mod Lists
pub mod Converting
pub mod Documents
pub mod RoundTrips
pub mod Disagreement
pub mod Examples
