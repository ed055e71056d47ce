pub mod Checks
pub mod Judging
pub mod Requests
pub mod Says
pub mod Printing
pub mod Readers
pub mod Shapes
pub mod Evaluating
