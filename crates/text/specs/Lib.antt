-- The definitions that the contracts cite: fields, and the numbers that fields write.
pub mod Fields
pub mod Numbers
