pub mod Agree
pub mod Ahead
pub mod Gave
pub mod Intake
pub mod Log
pub mod Named
pub mod Stored
pub mod Stream
