pub mod GapLemmas
pub mod HeaderLemmas
pub mod MakingLemmas
