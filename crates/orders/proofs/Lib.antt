pub mod Scans
pub mod Deciding
