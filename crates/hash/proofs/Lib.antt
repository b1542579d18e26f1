pub mod Words
pub mod Padding
pub mod Digests
pub mod Bitwise
pub mod Stages
pub mod Known
pub mod Sha256Laws
pub mod Examples
