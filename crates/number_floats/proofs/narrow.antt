pub mod Pick
pub mod Core
pub mod Wide
pub mod Meets
