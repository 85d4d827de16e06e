pub mod Completions
pub mod Draws
pub mod Seats
pub mod Tables
