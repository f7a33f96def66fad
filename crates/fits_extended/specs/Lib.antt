pub mod Numbers
pub mod OwnCard
pub mod Same
pub mod Saying
pub mod Stands
pub mod Words
