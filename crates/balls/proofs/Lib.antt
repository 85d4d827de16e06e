pub mod Laws
mod Taken
