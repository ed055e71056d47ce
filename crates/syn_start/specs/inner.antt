pub mod Fine
pub mod Goals
pub mod Orders
pub mod Under
