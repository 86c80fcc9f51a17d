-- Declares the lemmas that the proofs share.
pub mod Packed
pub mod Placed
pub mod Vans
pub mod Accepted
pub mod Edited
pub mod Ranges
pub mod Once
pub mod Soundness
pub mod Housing
