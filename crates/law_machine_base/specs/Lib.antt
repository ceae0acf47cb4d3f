-- the tests by which the parts of a state agree with one another
pub mod Agreement
-- a run by its picks, computed
pub mod Course
-- what is so at each place of every run
pub mod OverRuns
-- what holds where a deed is done
pub mod Fits
-- what some events leave alone
pub mod FactsOfEvents
-- the steps of each Plug and Play post, written out for one device
pub mod FactsOfSteps
-- sixteen small mistakes, and the same done right
pub mod FactsOfFaults
-- the lock of each callback under each scope, written out for one device
pub mod FactsOfLocks
