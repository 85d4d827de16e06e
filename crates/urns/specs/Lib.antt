pub mod SplitMix
pub mod Urns
pub mod Answering
