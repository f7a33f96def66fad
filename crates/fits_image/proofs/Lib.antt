pub mod ImageCardLemmas
pub mod ImageHeaderLemmas
pub mod ImageKindLemmas
pub mod LeadFromLemmas
pub mod NumberCardLemmas
pub mod PlainTextLemmas
