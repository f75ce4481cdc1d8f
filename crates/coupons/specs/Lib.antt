pub mod Evenings
