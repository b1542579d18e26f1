-- What public contracts cite, in reading order.
pub mod LeafList
-- How the code holds it: cited by private contracts alone.
pub mod Rows
