pub mod Changes
pub mod Solutions
pub mod Rooms
pub mod Forms
