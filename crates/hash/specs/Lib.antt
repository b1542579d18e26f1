-- What public contracts cite, in reading order.
pub mod Sha256
pub mod Parts
