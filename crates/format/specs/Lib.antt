-- What public contracts cite, in reading order.
pub mod Refusals
pub mod Parse
pub mod Field
pub mod Answer
pub mod Bytes
pub mod Level
pub mod Bump
pub mod Cmp
pub mod Node
pub mod Transaction
pub mod Tsc
pub mod Id
pub mod Padded
pub mod Beef
pub mod BeefAnswer
-- How the code holds it: cited by private contracts alone.
pub mod Seen
pub mod Kept
