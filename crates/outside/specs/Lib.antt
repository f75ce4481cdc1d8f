pub mod Exactly
pub mod Lines
pub mod Figures
pub mod Sources
