pub mod Growth
pub mod OwnRows
pub mod RowsOfLines
pub mod OneStep
pub mod Lining
pub mod Endings
