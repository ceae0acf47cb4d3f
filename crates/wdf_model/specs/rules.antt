-- what the next statement of a callback does
pub mod Script
-- what changes, as a list of deeds, each an act of one part
pub mod Deeds
-- what each deed asks of the state, so that it can be done
pub mod Room
-- the sixteen faults of a driver
pub mod Faults
-- what each framework call answers and does, and which calls wait
pub mod Calls
-- when callbacks start, stages pass and objects end, and what each of these does
pub mod Starts
-- what apps, devices, targets and the Plug and Play manager may do
pub mod Posts
-- which event may come in a state, and the state after it
pub mod Steps
-- the candidates for the next event, in their order
pub mod Groups
-- what may follow a run, and how a run ends
pub mod Ready
-- what a stuck run waits for
pub mod Waits
