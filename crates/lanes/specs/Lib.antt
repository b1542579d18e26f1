-- What public contracts cite, in reading order.
pub mod Lanes
