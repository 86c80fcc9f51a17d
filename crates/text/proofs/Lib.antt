-- The lemmas that the proofs of the functions share.
pub mod Splits
pub mod Parted
pub mod Digits
pub mod Folds
pub mod Rows
