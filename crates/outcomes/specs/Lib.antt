-- Declares the definitions that the contracts cite.
pub mod Settled
pub mod Offers
pub mod Outcomes
pub mod Fairness
pub mod Runs
