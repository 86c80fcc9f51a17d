-- Declares the definitions that the contracts cite.
pub mod Lines
pub mod Meaning
pub mod Refusals
pub mod Replies
pub mod Tallies
pub mod Desks
