-- Declares the definitions that the contracts cite.
pub mod Grounds
pub mod Positions
pub mod Guides
pub mod Changes
pub mod Surveys
pub mod Memory
pub mod Slabs
pub mod Roots
pub mod Frames
