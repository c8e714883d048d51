-- Errors in words (02, 2026-10): which errors are known, texts from a lent table, a line, and the answer of the whole call
pub mod Known
pub mod Messages
pub mod Texts
pub mod Lines
pub mod Words
pub mod Puts
pub mod Listed
