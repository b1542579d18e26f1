-- What public contracts cite, in reading order.
pub mod Page
-- How the code holds it: cited by private contracts alone.
pub mod Opening
pub mod Flat
