pub mod PartsSound
pub mod PartsComplete
pub mod Beginnings
