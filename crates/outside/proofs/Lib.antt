pub mod Cuts
pub mod Dates
pub mod Judged
