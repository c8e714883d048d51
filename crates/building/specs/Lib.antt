pub mod Taking
pub mod State
pub mod Found
pub mod Emission
pub mod Scopes
pub mod Pool
pub mod Context
pub mod RepresentsMachine
