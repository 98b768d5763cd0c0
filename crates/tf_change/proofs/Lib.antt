pub mod HaarLemmas
pub mod ItemLemmas
pub mod OrderLemmas
