pub mod Growth
pub mod Replays
