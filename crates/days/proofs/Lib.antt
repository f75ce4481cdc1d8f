pub mod Checks
pub mod Spans
pub mod Years
pub mod Months
pub mod Round
pub mod EasterTable
pub mod Ends
pub mod Parts
