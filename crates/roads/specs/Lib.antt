-- Declares the definitions that the contracts cite.
pub mod Roads
pub mod Faults
pub mod Grids
pub mod GridOf
pub mod Tables
pub mod TableFaults
pub mod TableOf
pub mod AnyOf
pub mod Laws
pub mod GridsLemmas
