pub mod ChangeLaws
pub mod WordLaws
