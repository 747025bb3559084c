pub mod PlanText
pub mod PlanFaults
pub mod PlanErrors
pub mod Places
