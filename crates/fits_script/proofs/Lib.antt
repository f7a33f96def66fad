pub mod CutLemmas
pub mod ListLemmas
pub mod PartsLemmas
pub mod RectangleLemmas
pub mod ValuesLemmas
pub mod VerbLemmas
pub mod WordLemmas
pub mod WordingLemmas
