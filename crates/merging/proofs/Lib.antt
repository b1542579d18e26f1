pub mod MergingTheorems
pub mod MergedCheck
pub mod MergeTheorems
pub mod Answered
mod MergedBytes
mod BothLaws
mod ChoiceLaws
mod TallyLaws
mod WalkLaws
mod LevelWalk
mod LevelsLaws
mod AllLevels
mod MergeLaws
mod Examples
