pub mod Halves
pub mod Typing
pub mod Places
