-- What public contracts cite, in reading order.
pub mod Merging
-- How the code holds it: cited by private contracts alone.
pub mod Both
pub mod Walk
pub mod Levels
pub mod Agreed
