-- What public contracts cite, in reading order.
pub mod Table
pub mod Amounts
pub mod Bundle
pub mod BundleAnswer
pub mod Work
-- How the code holds it: cited by private contracts alone.
pub mod Numbers
pub mod Payments
pub mod Second
pub mod Windows
pub mod FlatForm
pub mod Walks
pub mod Pictured
pub mod Pass
pub mod Shown
pub mod BundleHeads
pub mod Ahead
pub mod Anchored
pub mod WorkMade
