pub mod TextLaws
pub mod WalkLaws
pub mod ListingLaws
pub mod Bounded
pub mod Room
pub mod Examples
