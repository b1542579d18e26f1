-- What public contracts cite, in reading order.
pub mod Differences
pub mod Listing
pub mod Shorter
-- How the code holds it: cited by private contracts alone.
pub mod Merge
pub mod Filling
