-- Declares the definitions that the contracts cite.
pub mod Words
pub mod Lines
pub mod Meaning
pub mod Replies
pub mod Texts
pub mod Desks
pub mod Sessions
