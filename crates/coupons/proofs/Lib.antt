pub mod FirstDate
pub mod Room
