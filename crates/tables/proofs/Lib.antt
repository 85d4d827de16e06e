pub mod Completing
pub mod Drawn
pub mod Equal
pub mod Ranges
pub mod Removal
pub mod Seated
