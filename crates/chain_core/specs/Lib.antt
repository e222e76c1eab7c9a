pub mod Origins
pub mod Meanings
pub mod Parts
pub mod Outputs
pub mod PlanRun
pub mod LeftOutcomes
