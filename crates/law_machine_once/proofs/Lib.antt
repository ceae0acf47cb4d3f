pub mod Deferred
pub mod GroupsOnce
pub mod Numbers
pub mod OnceEach
pub mod Places
pub mod ReadyOnce
pub mod Steps
