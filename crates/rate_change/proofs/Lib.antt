pub mod SumLemmas
pub mod WeightLemmas
pub mod NearestLemmas
pub mod OutputLemmas
pub mod RateLemmas
pub mod DigitLemmas
pub mod SteadyLemmas
