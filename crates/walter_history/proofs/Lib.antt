mod Covered
pub mod Fronts
pub mod LastSeen
pub mod LinesFirst
pub mod LinesFold
pub mod LinesSet
pub mod LinesStand
pub mod Linked
pub mod Owned
pub mod Standing
