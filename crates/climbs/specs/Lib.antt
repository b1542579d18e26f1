-- What public contracts cite, in reading order.
pub mod Count
pub mod LookUp
pub mod Row
pub mod Proofs
pub mod ClientsShapes
pub mod Reach
-- How the code holds it: cited by private contracts alone.
pub mod Order
pub mod Pass
pub mod Rise
pub mod Spent
pub mod Together
pub mod Begun
pub mod Waiting
