pub mod Year
pub mod Sheet
