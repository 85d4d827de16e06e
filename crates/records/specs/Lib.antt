pub mod Refusals
pub mod Forms
