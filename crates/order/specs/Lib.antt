-- What public contracts cite, in reading order.
pub mod Listed
pub mod Order
pub mod Set
-- How the code holds it: cited by private contracts alone.
pub mod Bits
pub mod SetRead
pub mod Ids
pub mod Code
pub mod Parents
