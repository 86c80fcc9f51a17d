-- Declares the lemmas that the proofs share.
pub mod Tables
pub mod TableFaults
