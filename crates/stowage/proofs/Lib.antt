-- Declares the lemmas that the proofs share.
pub mod Together
