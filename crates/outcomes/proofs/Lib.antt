-- Declares the lemmas that the proofs share.
pub mod Written
pub mod Acted
pub mod Moved
pub mod Starts
pub mod Clocked
pub mod Exactly
pub mod Bids
pub mod Visited
pub mod Fairly
pub mod Booked
pub mod Running
