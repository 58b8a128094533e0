pub mod Wide
pub mod MaskWords
