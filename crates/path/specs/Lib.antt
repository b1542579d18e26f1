-- What public contracts cite, in reading order.
pub mod Search
pub mod Unchecked
pub mod Path
pub mod TscPath
pub mod Subject
-- How the code holds it: cited by private contracts alone.
pub mod Steps
