-- Lines and columns.
pub mod Spot
