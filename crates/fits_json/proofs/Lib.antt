pub mod JsonLemmas
pub mod ObjectLemmas
pub mod ValueLemmas
