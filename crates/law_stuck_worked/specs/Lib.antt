pub mod StuckObjects
pub mod StuckRequests
pub mod StuckSequences
pub mod SpinningRuns
pub mod Silence
pub mod SilentRuns
