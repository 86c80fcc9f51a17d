-- Declares the definitions that the contracts cite.
pub mod Refusals
pub mod Terms
pub mod Slots
pub mod Quotes
pub mod States
pub mod Sound
pub mod SoundTest
pub mod Housed
pub mod Answers
