pub mod HeaderLemmas
pub mod HistoryLemmas
pub mod LeadLemmas
pub mod OwnCardLemmas
pub mod PlainsLemmas
pub mod SayingLemmas
pub mod ScaledLemmas
pub mod StillLemmas
