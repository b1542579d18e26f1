pub mod InOrder
pub mod OrderLaws
mod SortLaws
pub mod FrontsLaws
pub mod PlacesLaws
pub mod OrderedLaws
pub mod Within
