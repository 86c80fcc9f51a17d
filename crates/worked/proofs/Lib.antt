-- Declares the lemmas that the proofs share.
mod Tables
mod Orders
mod Rows
