pub mod Members
pub mod Around
pub mod Rolls
pub mod Kept
