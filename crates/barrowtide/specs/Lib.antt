-- What public contracts cite, in reading order.
pub mod Interface
pub mod Answers
pub mod Forms
pub mod Choices
pub mod Depths
pub mod Parts
pub mod Leaves
