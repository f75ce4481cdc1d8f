pub mod Counting
pub mod Bases
pub mod Formulas
pub mod Places
pub mod Actual
