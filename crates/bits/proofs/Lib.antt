pub mod Digits
pub mod Laws
pub mod Sets
pub mod Walk
pub mod Callers
pub mod Examples
