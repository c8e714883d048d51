mod NumbersBench
pub mod Places
pub mod Progress
pub mod Texts
