pub mod InnerNames
pub mod Links
pub mod ListedNumbers
