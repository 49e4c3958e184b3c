mod ChainCauses
mod MonitorCauses
mod GenCauses
mod OrderCauses
mod Plans
mod RunCauses
mod Verdicts
mod LintCauses
