pub mod FewFast
pub mod Weighted
pub mod FastLaws
pub mod WeightedLaws
