pub mod Letters
pub mod Increases
pub mod Shares
pub mod Totals
pub mod Batches
pub mod Factors
pub mod Props
