mod LeafListLaws
pub mod LeafListTheorems
mod RowsLaws
mod SearchLaws
mod Examples
