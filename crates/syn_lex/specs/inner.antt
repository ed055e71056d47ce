-- Inner. What private contracts alone cite.
pub mod Finding
