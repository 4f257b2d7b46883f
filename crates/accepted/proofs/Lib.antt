pub mod WhenRead
pub mod Numbers
pub mod Held
pub mod Plans
pub mod Lookups
pub mod Laws
