-- What public contracts cite, in reading order.
pub mod Tree
pub mod BlockBump
pub mod Output
-- How the code holds it: cited by private contracts alone.
pub mod Ids
pub mod Heap
pub mod Marks
pub mod Leaves
