pub mod Nodes
pub mod Sorting
pub mod Printing
pub mod Machine
pub mod Applying
