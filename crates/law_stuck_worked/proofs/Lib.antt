mod Over
pub mod StuckRuns
pub mod SpinningRuns
pub mod SilentRuns
