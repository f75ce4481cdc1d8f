pub mod Dates
pub mod Judged
pub mod Outcomes
pub mod Schedule
pub mod Laws
pub mod Figures
