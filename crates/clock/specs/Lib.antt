pub mod Time
pub mod Ledger
pub mod PlanOf
pub mod Lasting
pub mod History
pub mod Keeps
pub mod Lawful
