pub mod Going
pub mod Fronts
pub mod Saying
pub mod Judging
pub mod Verdicts
pub mod Exact
