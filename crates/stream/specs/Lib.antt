-- What public contracts cite, in reading order.
pub mod Parts
pub mod Progress
pub mod HashState
pub mod Lent
