pub mod PageLaws
pub mod FlatLaws
pub mod Examples
