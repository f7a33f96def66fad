mod BlockLemmas
mod MixLemmas
mod MomentLemmas
pub mod PlanLemmas
mod ProtocolLemmas
mod SpliceLemmas
mod StagedLemmas
mod TellsLemmas
