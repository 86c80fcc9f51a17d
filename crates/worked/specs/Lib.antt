-- Declares the definitions that the contracts cite.
pub mod Town
pub mod Examples
