pub mod Forms
pub mod Functions
pub mod Instead
pub mod Numbered
pub mod Returned
pub mod Widths
pub mod Printed
pub mod FormsPrinted
