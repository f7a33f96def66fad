pub mod ChecksumText
pub mod DatasumCard
pub mod Laws
pub mod OnesComplement
pub mod Words
