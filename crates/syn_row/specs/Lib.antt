pub mod Rows
pub mod Guards
pub mod Results
pub mod RowLaws
pub mod JoinLaws
pub mod inner
pub mod Calls
