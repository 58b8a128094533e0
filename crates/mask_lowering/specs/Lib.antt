pub mod PointViews
pub mod Lowering
pub mod Views
