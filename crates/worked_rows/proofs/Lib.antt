pub mod TextRows
pub mod PropertyRows
pub mod ReadOnlyRows
pub mod OverlayRows
pub mod UndoRows
pub mod HookRows
pub mod ProcessRows
pub mod WaitRows
pub mod CodingRows
pub mod NativeRows
pub mod LimitRows
pub mod DrillRows
mod UndoneRuns
mod Doing
mod NativeExamples
mod BufferExamples
mod TextExamples
mod MarkerExamples
mod PropertyExamples
mod OverlayExamples
mod UndoExamples
mod LimitExamples
mod CommitExamples
