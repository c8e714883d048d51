pub mod AllRows
pub mod AllStandingRows
pub mod AllOntoRows
pub mod AllTrialRows
pub mod AllStrictRows
pub mod WithinBench
pub mod PromiseBench
pub mod OntoPromiseBench
