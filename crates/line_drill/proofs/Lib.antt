pub mod MadeForms
pub mod DrillOutput
