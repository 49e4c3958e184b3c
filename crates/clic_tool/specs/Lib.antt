pub mod Usage
pub mod Plan
pub mod RunCauses
pub mod ChainCauses
pub mod MonitorCauses
pub mod GenCauses
pub mod LintCauses
