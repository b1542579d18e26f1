-- What public contracts cite, in reading order.
pub mod Encode
pub mod Digits
pub mod Buffer
pub mod BumpBytes
pub mod TscBytes
