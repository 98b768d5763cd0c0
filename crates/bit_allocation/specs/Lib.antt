pub mod Amounts
pub mod Counts
pub mod Facts
pub mod Plans
pub mod Requests
pub mod Scripts
pub mod Shares
pub mod Totals
