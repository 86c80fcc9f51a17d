-- Declares the lemmas that the proofs share.
pub mod Stepped
pub mod Rows
pub mod Branched
pub mod Counts
pub mod Tallies
pub mod Turns
pub mod Stacks
pub mod Changed
pub mod Surveyed
pub mod Pasted
pub mod Replacing
pub mod Places
