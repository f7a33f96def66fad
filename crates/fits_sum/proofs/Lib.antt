pub mod CharacterLemmas
pub mod ColumnLemmas
pub mod DatasumLemmas
pub mod FillLemmas
pub mod StandardFacts
pub mod SumLemmas
pub mod TextLemmas
pub mod WordLemmas
