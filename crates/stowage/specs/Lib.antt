-- Declares the definitions that the contracts cite.
pub mod Limits
pub mod Figures
pub mod Laws
pub mod Together
pub mod Passengers
pub mod Parcels
pub mod Sums
pub mod Options
pub mod Judged
