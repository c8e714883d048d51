-- Laws of the tree, each file by its subject. Assumes nothing.
pub mod Tables
pub mod Spans
pub mod Walks
pub mod Ways
pub mod Lacking
pub mod Children
pub mod This
pub mod Spells
pub mod Runs
pub mod Definitions
pub mod Bundle
pub mod View
pub mod Examples
