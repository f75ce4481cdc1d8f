pub mod Cuts
pub mod Filled
pub mod Fitting
pub mod Lays
pub mod Numerals
pub mod Dated
