-- The agents of a run, a file each: what each is at the opening, how it changes with an event, what it posts.
pub mod App
pub mod PnpManager
pub mod Device
pub mod LowerTarget
pub mod AnyAgent
pub mod IdlePolicy
pub mod IdleAgent
pub mod Chains
pub mod Connector
pub mod StackManager
pub mod StackAgent
