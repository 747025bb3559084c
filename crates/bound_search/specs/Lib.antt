pub mod UnderWay
pub mod Walking
