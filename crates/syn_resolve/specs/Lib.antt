pub mod Splitting
pub mod Resolution
pub mod Replacement
pub mod RuleLaws
pub mod inner
