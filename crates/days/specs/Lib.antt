pub mod Spans
pub mod Within
pub mod Calendar
pub mod Easter
pub mod Week
pub mod Laws
pub mod Refusals
pub mod Texts
