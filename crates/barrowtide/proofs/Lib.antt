mod PartsLaws
mod OrderingLaws
mod DepthsLaws
pub mod InterfaceLaws
pub mod FormsLaws
pub mod ChoicesLaws
