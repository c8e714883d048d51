pub mod Again
pub mod Names
