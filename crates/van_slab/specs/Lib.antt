-- Declares the definitions that the contracts cite.
pub mod Limits
pub mod Trails
pub mod Reading
pub mod Laws
pub mod Equality
pub mod EqualityLemmas
