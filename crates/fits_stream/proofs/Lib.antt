pub mod AgreeLemmas
pub mod GaveLemmas
pub mod IntakeLemmas
pub mod LogLemmas
pub mod NamedLemmas
pub mod SightLemmas
pub mod StoredLemmas
pub mod StreamLemmas
