pub mod MaskLemmas
pub mod NoiseLemmas
pub mod SpreadLemmas
pub mod LimitLemmas
pub mod CarryLemmas
pub mod CalmLemmas
pub mod StereoLemmas
pub mod LawLemmas
