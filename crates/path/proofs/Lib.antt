pub mod StepLaws
pub mod UncheckedLaws
pub mod SearchLaws
pub mod PathLaws
pub mod TscPathLaws
pub mod SubjectLaws
