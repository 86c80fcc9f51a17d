-- Declares the definitions that the contracts cite.
pub mod Quotes
