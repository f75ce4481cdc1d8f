pub mod Parts
pub mod Deals
pub mod Printed
pub mod Reports
pub mod Laws
pub mod Ledgers
pub mod Opened
pub mod Pages
