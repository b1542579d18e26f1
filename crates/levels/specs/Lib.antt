-- What public contracts cite, in reading order.
pub mod Standing
pub mod Places
pub mod Order
pub mod Ordered
pub mod Fronts
-- How the code holds it: cited by private contracts alone.
pub mod Runs
