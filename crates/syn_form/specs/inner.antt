pub mod Joining
pub mod NotedSorts
pub mod BinderNumbers
