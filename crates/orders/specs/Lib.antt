pub mod Below
pub mod Orders
