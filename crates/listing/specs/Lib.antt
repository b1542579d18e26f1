-- What public contracts cite, in reading order.
pub mod Text
pub mod Listing
-- How the code holds it: cited by private contracts alone.
pub mod Walk
