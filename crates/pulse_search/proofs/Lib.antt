pub mod AngleSteps
pub mod FrontSteps
pub mod PulseSteps
