pub mod Beginning
pub mod Taking
