pub mod EligibleLemmas
pub mod RoundLemmas
pub mod StepLemmas
