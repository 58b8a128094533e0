pub mod Wanted
mod WorkedRows
mod NameRows
mod ControlRows
mod NestedRows
mod RateRows
mod TypeRows
mod OverloadRows
mod LibraryRows
mod OrderRows
mod AcceptedRows
mod LimitRows
mod TypedRows
mod ListedRows
mod WordRows
