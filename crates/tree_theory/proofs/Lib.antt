pub mod Bound
pub mod Frontiers
pub mod Sorted
pub mod Law
pub mod Exact
pub mod Alike
pub mod Bridge
pub mod Start
pub mod Turn
pub mod Shown
pub mod Mirror
pub mod Ends
pub mod Flip
pub mod Cross
pub mod Aligned
pub mod Mixed
pub mod Child
pub mod Same
pub mod Least
pub mod Canon
pub mod One
pub mod Computed
pub mod Lines
pub mod BelowRoot
pub mod AtRoot
pub mod OnePartial
pub mod Context
pub mod QLines
pub mod QSteps
pub mod Conflicts
pub mod Meaning
pub mod Patterns
pub mod QPatterns
pub mod Preserved
pub mod NodeTemplates
pub mod QAtRoot
pub mod TwoPartials
pub mod RootTemplates
pub mod Failed
pub mod NoOrder
pub mod NoTemplate
pub mod Steps
pub mod McConnell
pub mod Turned
pub mod Turnable
pub mod Sound
pub mod Arities
pub mod Uniform
pub mod Finding
pub mod Sorts
pub mod Measures
mod Weights
mod Hits
mod Paid
mod WeightBelow
mod WeightAtRoot
mod WeightReduced
mod Ticks
pub mod Inside
pub mod Chain
