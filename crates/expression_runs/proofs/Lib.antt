pub mod Tops
pub mod Leaves
