pub mod Grammar
pub mod Judge
pub mod inner
