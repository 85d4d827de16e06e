pub mod Entrants
pub mod Taking
