-- Declares the lemmas that the proofs share.
pub mod Basics
pub mod Steps
pub mod Inserted
pub mod Paths
pub mod Grown
pub mod Nodes
pub mod Thinned
pub mod Moved
pub mod Rows
pub mod Guided
pub mod Sizes
pub mod Plans
pub mod Numbers
pub mod Theorems
