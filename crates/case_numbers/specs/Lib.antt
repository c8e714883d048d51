-- What `find`, `same` and `parse` answer
pub mod Places
pub mod Texts
pub mod Numbers
