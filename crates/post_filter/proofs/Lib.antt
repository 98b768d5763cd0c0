pub mod DeemphasisLemmas
pub mod EchoLemmas
pub mod FilterLemmas
pub mod OutputLemmas
pub mod SampleLemmas
pub mod TapLemmas
