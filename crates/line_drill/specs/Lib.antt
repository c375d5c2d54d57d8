pub mod DrillForms
pub mod DrillHost
