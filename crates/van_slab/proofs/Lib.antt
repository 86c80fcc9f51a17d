-- Declares the lemmas that the proofs share.
pub mod Entered
pub mod Told
pub mod Equal
pub mod Best
pub mod Picked
pub mod Tracks
pub mod Exact
pub mod Bounds
